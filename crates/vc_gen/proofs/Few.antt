-- How many conditions there are.
use Rattle.std.proofs.Common.{◌≡◌, ℕ, suc, ◌+◌, ◌*◌, ◌≤◌, Bool, true, false, List, [], ◌∷◌, ◌++◌, map, take, drop, length, nat_eq, nat_lt, nat_le, refl, sym, ap, ap₂, ◌∙◌, subst, arith, length-append, eqb-true, Result, Ok, Err, IfOk}
use Rattle.std.specs.List.{take-map, drop-map, AllByRecursion}
use Rattle.std.proofs.Math.Nat.{suc-mul, mul_assoc}
use Rattle.std.proofs.lemmas.List.{length-map}
use Rattle.std.proofs.lemmas.Bool.Decides.{nat_tests}
use Rattle.std.specs.declared.option.Option.{Option}
use Rattle.std.specs.declared.option.Option.TheVariants.{Some, None}
use Rattle.tor_terms.specs.declared.term.Atom.{Atom}
use Rattle.tor_terms.specs.Plain.{Form, Is, Both, Either, Tree, Hold}
use Rattle.tor_axioms.specs.Accepts.{Claim}
use Rattle.kernel_lang.specs.declared.parts.Update.{Update}
use Rattle.kernel_lang.specs.Paths.{Path, each_with, paths, guard_paths, count_paths, count_guard}
use Rattle.kernel_lang.specs.Plain.{Accumulator, Fragment}
use Rattle.kernel_lang.specs.Pools.{chosen, members_from}
use Rattle.kernel_lang.specs.Postcondition.{loops_of, start_term}
use Rattle.kernel_lang.specs.Running.{Layer, layers, layers_of, outside, inside}
use Rattle.kernel_lang.specs.Sentences.{AccumulatorIsValid, IsValid}
use Rattle.kernel_lang.specs.Validity.{broken, rises, chain_is_valid, level_conditions, count_levels, count_ways, count_own, count_conditions, conditions_are_few}
use Rattle.kernel_lang.proofs.Sentences.{valid}
use Rattle.kernel_lang.proofs.Listing.{and_four}
use Rattle.vc_gen.specs.Conditions.{by_paths, true_steps, false_steps, exit, at_level, level, conditions_in, ways_through, own_conditions, all_conditions, conditions}

one_more : (m n : ℕ) → n + m * n ≡ suc m * n
one_more m n = let e : suc m * n ≡ m * n + n = suc-mul m n in omega (arith, e)

each_length : (ps qs : List Path) → length (each_with ps qs) ≡ length ps * length qs
each_length [] qs = omega arith
each_length (p ∷ ps) qs =
    length-append (map (λ q. p ++ q) qs) (each_with ps qs) ∙ ap₂ (λ x y. x + y) (length-map qs (λ q. p ++ q)) (each_length ps qs) ∙ one_more (length ps) (length qs)

paths_length : (f : Form) (want : Bool) → length (paths f want) ≡ count_paths f want
paths_length (Is k s) want = refl
paths_length (Both f g) true = each_length (paths f true) (paths g true) ∙ ap₂ (λ x y. x * y) (paths_length f true) (paths_length g true)
paths_length (Both f g) false =
    length-append (paths f false) (each_with (paths f true) (paths g false))
    ∙ ap₂ (λ x y. x + y) (paths_length f false) (each_length (paths f true) (paths g false) ∙ ap₂ (λ x y. x * y) (paths_length f true) (paths_length g false))
paths_length (Either f g) true =
    length-append (paths f true) (each_with (paths f false) (paths g true))
    ∙ ap₂ (λ x y. x + y) (paths_length f true) (each_length (paths f false) (paths g true) ∙ ap₂ (λ x y. x * y) (paths_length f false) (paths_length g true))
paths_length (Either f g) false = each_length (paths f false) (paths g false) ∙ ap₂ (λ x y. x * y) (paths_length f false) (paths_length g false)

guard_length : (g : Option Form) (want : Bool) → length (guard_paths g want) ≡ count_guard g want
guard_length None true = refl
guard_length None false = refl
guard_length (Some f) want = paths_length f want

module _ (atoms : List Atom) where
  pub by_paths_length : (F : Path) (l r : Tree) (ps : List Path) → length (by_paths atoms F l r ps) ≡ length ps
  by_paths_length F l r [] = refl
  by_paths_length F l r (p ∷ ps) = ap suc (by_paths_length F l r ps)

  module _ (u : Update) (fs : List Form) where
    at_level_length : (outer : List ℕ) (w : Tree) (y : Layer) (ys : List Layer) (F : Path) → length (at_level atoms u fs outer w y ys F) ≡ level_conditions y.guard
    at_level_length outer w y ys F =
        let a = length-append (true_steps atoms u fs outer w y ys F) (false_steps atoms u fs outer w y ys F ++ exit atoms u fs outer w y ys F ∷ []) in
        let b = length-append (false_steps atoms u fs outer w y ys F) (exit atoms u fs outer w y ys F ∷ []) in
        let c : length (true_steps atoms u fs outer w y ys F) ≡ count_guard y.guard true = by_paths_length F _ _ (guard_paths y.guard true) ∙ guard_length y.guard true in
        let d : length (false_steps atoms u fs outer w y ys F) ≡ count_guard y.guard false = by_paths_length F _ _ (guard_paths y.guard false) ∙ guard_length y.guard false in
        omega (arith, a, b, c, d)

    level_length : (outer : List ℕ) (w : Tree) (y : Layer) (ys : List Layer) (Fs : List Path) → length (level atoms u fs outer Fs w y ys) ≡ length Fs * level_conditions y.guard
    level_length outer w y ys [] = omega arith
    level_length outer w y ys (F ∷ Fs) =
        length-append (at_level atoms u fs outer w y ys F) (level atoms u fs outer Fs w y ys) ∙ ap₂ (λ m n. m + n) (at_level_length outer w y ys F) (level_length outer w y ys Fs) ∙ one_more (length Fs) (level_conditions y.guard)

    inside_length : (ys : List Layer) (outer : List ℕ) (Fs : List Path) (w : Tree) → length (conditions_in atoms u fs outer Fs w ys) ≡ count_levels (length Fs) (map (λ y. y.guard) ys)
    inside_length [] outer Fs w = refl
    inside_length (y ∷ ys) outer Fs w =
        length-append (level atoms u fs outer Fs w y ys) (conditions_in atoms u fs (outer ++ y.over ∷ []) (each_with Fs (guard_paths y.guard true)) (Hold (length outer + 2)) ys)
        ∙ ap₂ (λ m n. m + n) (level_length outer w y ys Fs) (inside_length ys (outer ++ y.over ∷ []) (each_with Fs (guard_paths y.guard true)) (Hold (length outer + 2)))
        ∙ ap (λ n. length Fs * level_conditions y.guard + count_levels n (map (λ y. y.guard) ys)) (each_length Fs (guard_paths y.guard true) ∙ ap (λ n. length Fs * n) (guard_length y.guard true))

ways_length : (zs : List Layer) (Fs : List Path) → length (ways_through Fs zs) ≡ length Fs * count_ways (map (λ z. z.guard) zs)
ways_length [] Fs = omega arith
ways_length (z ∷ zs) Fs =
    ways_length zs (each_with Fs (guard_paths z.guard true))
    ∙ ap (λ n. n * count_ways (map (λ z. z.guard) zs)) (each_length Fs (guard_paths z.guard true) ∙ ap (λ n. length Fs * n) (guard_length z.guard true))
    ∙ mul_assoc (length Fs) (count_guard z.guard true) (count_ways (map (λ z. z.guard) zs))

guards_layers : (js : List ℕ) (gs : List (Option Form)) → length gs ≡ length js → map (λ y. y.guard) (layers js gs) ≡ gs
guards_layers [] [] e = refl
guards_layers [] (g ∷ gs) e = absurd (omega (arith, e))
guards_layers (j ∷ js) [] e = absurd (omega (arith, e))
guards_layers (j ∷ js) (g ∷ gs) e = ap (λ hs. g ∷ hs) (guards_layers js gs (omega (arith, e)))

guards_of : (f : Fragment) (a : Accumulator) → AccumulatorIsValid f a → map (λ y. y.guard) (layers_of a) ≡ a.guards
unfolding chain_is_valid
guards_of f a v =
    let r = and_four _ (rises a.chain) (nat_lt a.base (length a.chain)) (nat_eq (length a.guards) (length a.chain)) v.chain in
    guards_layers a.chain a.guards (eqb-true (length a.guards) (length a.chain) r.3)

once : (n : ℕ) → 1 * n ≡ n
once n = omega arith

own_length : (f : Fragment) (a : Accumulator) (fs : List Form) → AccumulatorIsValid f a → length (own_conditions f.atoms (a, fs)) ≡ count_own a
own_length f a fs v =
    inside_length f.atoms a.update fs (inside a) (loops_of (outside a)) (ways_through ([] ∷ []) (outside a)) (start_term a.start)
    ∙ ap₂ count_levels
    (ways_length (outside a) ([] ∷ []) ∙ once (count_ways (map (λ z. z.guard) (outside a))) ∙ ap count_ways (sym (take-map (λ y. y.guard) a.base (layers_of a)) ∙ ap (take a.base) (guards_of f a v)))
    (sym (drop-map (λ y. y.guard) a.base (layers_of a)) ∙ ap (drop a.base) (guards_of f a v))

all_length : (f : Fragment) (c : List ℕ) (accs : List Accumulator) (n : ℕ) → AllByRecursion (AccumulatorIsValid f) accs → length (all_conditions f.atoms (members_from c n accs)) ≡ count_conditions accs
all_length f c [] n v = refl
all_length f c (a ∷ rest) n v =
    length-append (own_conditions f.atoms (a, chosen c n a.pool)) (all_conditions f.atoms (members_from c (n + length a.pool) rest))
    ∙ ap₂ (λ x y. x + y) (own_length f a (chosen c n a.pool) v.0) (all_length f c rest (n + length a.pool) v.1)

le_from : (m n : ℕ) → nat_le m n ≡ true → m ≤ n
le_from m n e = grind (arith, nat_tests)

few : (f : Fragment) (c : List ℕ) → broken f ≡ None → length (conditions f c) ≤ 4096
unfolding conditions_are_few
few f c none =
    let v : IsValid f = valid f none in
    subst (λ n. n ≤ 4096) (sym (all_length f c f.accs 0 v.accs)) (le_from (count_conditions f.accs) 4096 v.conditions)

pub few_by : {A E : Type 0} (claims : A → List Claim) (size : A → ℕ) → ((x : A) → length (claims x) ≡ size x) → (f : Fragment) (c : List ℕ) → broken f ≡ None → (r : Result A E) → IfOk r (λ x. claims x ≡ conditions f c) → IfOk r (λ x. size x ≤ 4096)
few_by claims size e f c none (Ok x) h = subst (λ n. n ≤ 4096) (sym (ap length h) ∙ e x) (few f c none)
few_by claims size e f c none (Err x) h = tt

pub counted_by : {A E : Type 0} (claims : A → List Claim) (size : A → ℕ) → ((x : A) → length (claims x) ≡ size x) → (f : Fragment) (c : List ℕ) → broken f ≡ None → (r : Result A E) → IfOk r (λ x. claims x ≡ conditions f c) → IfOk r (λ x. size x ≡ count_conditions f.accs)
counted_by claims size e f c none (Ok x) h = sym (e x) ∙ ap length h ∙ all_length f c f.accs 0 (valid f none).accs
counted_by claims size e f c none (Err x) h = tt

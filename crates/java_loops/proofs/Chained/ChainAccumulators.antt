-- All accumulators of a lowered fragment: those outside of all loops are of the needed variables, the others are flags.
use Rattle.std.proofs.Common.{◌≡◌, ℕ, zero, suc, ◌<◌, true, List, [], ◌∷◌, ◌++◌, length, map, Option, Some, None, refl, sym, ap, ◌∙◌, subst, slice_get, arith, ⊎_elim}
use Rattle.std.specs.List.{AllByRecursion}
use Rattle.std.proofs.lemmas.Bool.{cases_lt}
use Rattle.std.proofs.lemmas.Option.{slice_get_within}
use Rattle.qbs_base.specs.declared.span.Span.{Span}
use Rattle.java_ast.specs.Tree as tree
use Rattle.java_ast.specs.Tree.{Spelled, Expression, Statement, Statements}
use Rattle.java_mean.specs.Typing.{Frame}
use Rattle.kernel_lang.specs.Plain.{Accumulator, Fragment}
use Rattle.kernel_lang.specs.Running.{started}
use Rattle.tor_terms.specs.Plain.{Form}
use Rattle.java_loops.specs.Walks.Carried.{Suits}
use Rattle.java_loops.specs.Walks.ChainLaws.{AreAccumulators, no_more, outer, inner}
use Rattle.java_loops.specs.Walks.Chains.{By}
use Rattle.java_loops.specs.Walks.Numbering.{Numbering}
use Rattle.loop_text.specs.Statements.Fragment.{needed_of}
use Rattle.loop_text.specs.Kernel.KernelStarts.{Numbered, update_of, update_of_flag, form_found}
use Rattle.loop_text.specs.Statements.Loops.{is_loop}
use Rattle.java_loops.specs.Lowering.Lowered.{accumulator_with, accumulator_of, outer_accumulators, flag_here, flags_from, fragment_with, conditions_of}
use Rattle.java_ast.specs.Names.{Names}
use Rattle.java_loops.specs.Lowering.Numbering.{Numbers}
use Rattle.java_loops.specs.Kernel.Setting.{Setting}
use Rattle.loop_text.specs.Sites.Sites.{Round, Site, in_loop, outside, kernel_body, declared_name}
use Rattle.java_loops.proofs.Chained.ChainFlagForms.{HasFlags}
use Rattle.java_loops.proofs.Chained.ChainSites.{all_at_site}
use Rattle.java_loops.proofs.Chained.ChainTurned.{Lowerable, Updated, stand, first_there}
use Rattle.java_loops.proofs.Chained.ChainTurns.{is_accumulator}
use Rattle.java_loops.proofs.Standing.Standing.{site_of}
use Rattle.java_loops.proofs.Standing.StandingRules.{get_same}

-- ---- Accumulators outside of all loops

abbrev accumulator_at : Setting → Numbers → List Form → List ℕ → Numbered → Accumulator
accumulator_at w t cs x u = accumulator_with w t cs x 0 u.site.round (form_found w.sites (Some u))

-- a variable that is updated, and starts as its update asks for
pub record Ready (w : Setting) (t : Numbers) (cs : List Form) (x : List ℕ) : Type 0 where
  pub update : Numbered
  pub updated : Updated w x update
  pub suits : Suits (By (accumulator_at w t cs x update).update (accumulator_at w t cs x update).opposite) (started (accumulator_at w t cs x update).start)

-- the variables with their accumulators
abbrev pub named_accumulators : Setting → Numbers → List Form → Names → List (List ℕ × Accumulator)
named_accumulators w t cs [] = []
named_accumulators w t cs (x ∷ xs) = map (λ a. (x, a)) (accumulator_of w t cs x 0 (update_of w.sites x)) ++ named_accumulators w t cs xs

-- there are as many as variables
pub count_outer : (w : Setting) (t : Numbers) (cs : List Form) (xs : Names) → AllByRecursion (Ready w t cs) xs → length (outer_accumulators w t cs xs) ≡ length xs
count_outer w t cs [] all = refl
count_outer w t cs (x ∷ xs) all =
    let r : Ready w t cs x = all.0 in
    ap (λ o. length (accumulator_of w t cs x 0 o ++ outer_accumulators w t cs xs)) r.updated.is ∙ ap suc (count_outer w t cs xs all.1)

-- the accumulators of the fragment of needed variables
pub has_flags : (w : Setting) (t : Numbers) (xs : Names) → AllByRecursion (Ready w t (conditions_of w t)) xs → length xs ≡ length (needed_of w.fragment) → HasFlags w t (fragment_with w t xs)
has_flags w t xs all count =
    record {
      needed = outer_accumulators w t (conditions_of w t) xs;
      conditions = conditions_of w t;
      is = refl;
      count = count_outer w t (conditions_of w t) xs all ∙ count;
    }

-- ---- Flags

record Predecessor (n : ℕ) : Type 0 where
  before : ℕ
  is : n ≡ suc before

predecessor : (n : ℕ) → 0 < n → Predecessor n
predecessor zero h = absurd (omega (arith, h))
predecessor (suc n) h = record { before = n; is = refl }

-- what is declared among the sites stands in a loop
record InLoops (sites : List Site) : Type 0 where
  by : (i : ℕ) (s : Site) (x : List ℕ) → slice_get sites i ≡ Some s → declared_name s.statement ≡ Some x → 0 < length s.round.loops

flag_is : (w : Setting) (t : Numbers) (F : Fragment) (N : Numbering) (s : Statement) (cs : List Form) (x : List ℕ) (n : ℕ) (o : Option Numbered) (accs : List Accumulator) → 0 < n → AreAccumulators F N s [] accs → AreAccumulators F N s [] (accumulator_of w t cs x n o ++ accs)
flag_is w t F N s cs x n (Some u) accs h rest =
    let p : Predecessor n = predecessor n h in
    inner p.before (accumulator_with w t cs x n u.site.round (form_found w.sites (Some u))) [] accs p.is rest
flag_is w t F N s cs x n None accs h rest = rest

flag_or_none : (w : Setting) (t : Numbers) (F : Fragment) (N : Numbering) (s : Statement) (cs : List Form) (d : ℕ) (r : Round) (o : Option (List ℕ)) (accs : List Accumulator) → ((x : List ℕ) → o ≡ Some x → 0 < length r.loops) → AreAccumulators F N s [] accs → AreAccumulators F N s [] (flag_here w t cs d r o ++ accs)
flag_or_none w t F N s cs d r (Some x) accs h rest = flag_is w t F N s cs x (length r.loops) (update_of_flag w.sites d) accs (h x refl) rest
flag_or_none w t F N s cs d r None accs h rest = rest

flags_are : (w : Setting) (t : Numbers) (F : Fragment) (N : Numbering) (s : Statement) (cs : List Form) (k : ℕ) (sites : List Site) → InLoops sites → AreAccumulators F N s [] (flags_from w t cs k sites)
flags_are w t F N s cs k [] h = no_more
flags_are w t F N s cs k (z ∷ zs) h =
    flag_or_none w t F N s cs k z.round (declared_name z.statement) (flags_from w t cs (suc k) zs) (λ x e. h.by 0 z x refl e)
    (flags_are w t F N s cs (suc k) zs (record { by = λ i y x get e. h.by (suc i) y x get e }))

no_declared : (s : Statement) (x : List ℕ) → is_loop s ≡ true → declared_name s ≡ Some x → ⊥
no_declared (tree.ForEach at ty y e p) x h k = absurd cc
no_declared (tree.While at e p) x h k = absurd cc
no_declared (tree.Declare at ty y e) x h k = absurd cc
no_declared (tree.Assign at y e) x h k = absurd cc
no_declared (tree.Add at y e) x h k = absurd cc
no_declared (tree.Sort at y keys downs) x h k = absurd cc
no_declared (tree.If at e p) x h k = absurd cc
no_declared (tree.IfElse at e p q) x h k = absurd cc
no_declared (tree.Print at e) x h k = absurd cc
no_declared (tree.Return at e) x h k = absurd cc
no_declared (tree.Break at) x h k = absurd cc

flags_in_loops : (w : Setting) (c : Frame) (t : Numbers) (N : Numbering) (F : Fragment) → Lowerable w c t N F → InLoops w.sites
flags_in_loops w c t N F known = record { by = λ i s x get e. in_body i s x get e }
  where
    in_body : (i : ℕ) (s : Site) (x : List ℕ) → slice_get w.sites i ≡ Some s → declared_name s.statement ≡ Some x → 0 < length s.round.loops
    in_body i s x get e =
        ⊎_elim
        (λ h.
        let first : i ≡ 0 = omega (arith, h) in
        let same : s ≡ site_of outside None w.fragment.loop = get_same w.sites 0 s (site_of outside None w.fragment.loop) (ap (slice_get w.sites) (sym first) ∙ get) (first_there w c t N F known) in
        absurd (no_declared w.fragment.loop x known.turns.loop (ap (λ (z : Site). declared_name z.statement) (sym same) ∙ e)))
        (λ h.
        let under = (all_at_site w.sites (in_loop outside 0) None (kernel_body w.fragment.loop) 1 (length w.sites) (stand w c t N F known) i s h (slice_get_within w.sites i s get) get).under in
        let loops : length s.round.loops ≡ suc (length under.loops) = ap length under.is_loops in
        omega (arith, loops))
        (cases_lt i 1)

-- ---- All of them

outer_are : (w : Setting) (c : Frame) (t : Numbers) (N : Numbering) (F : Fragment) → Lowerable w c t N F → (at : Span) (ty : Spelled) (y : List ℕ) (e : Expression) (b : Statements) → w.fragment.loop ≡ tree.ForEach at ty y e b → (cs : List Form) (xs : Names) → AllByRecursion (Ready w t cs) xs → (rest : List Accumulator) → AreAccumulators F N w.fragment.loop [] rest → AreAccumulators F N w.fragment.loop (named_accumulators w t cs xs) (outer_accumulators w t cs xs ++ rest)
outer_are w c t N F known at ty y e b is cs [] all rest h = h
outer_are w c t N F known at ty y e b is cs (x ∷ xs) all rest h =
    let r : Ready w t cs x = all.0 in
    subst (λ o. AreAccumulators F N w.fragment.loop (map (λ a. (x, a)) (accumulator_of w t cs x 0 o) ++ named_accumulators w t cs xs) ((accumulator_of w t cs x 0 o ++ outer_accumulators w t cs xs) ++ rest)) (sym r.updated.is)
    (outer x (accumulator_at w t cs x r.update) (named_accumulators w t cs xs) (outer_accumulators w t cs xs ++ rest) refl (is_accumulator w c t N F known at ty y e b is cs x r.update r.updated r.suits) (outer_are w c t N F known at ty y e b is cs xs all.1 rest h))

-- The accumulators of a for-each's lowered fragment are those of the needed variables and flags.
pub are_accumulators : (w : Setting) (c : Frame) (t : Numbers) (N : Numbering) (xs : Names) → Lowerable w c t N (fragment_with w t xs) → (at : Span) (ty : Spelled) (y : List ℕ) (e : Expression) (b : Statements) → w.fragment.loop ≡ tree.ForEach at ty y e b → AllByRecursion (Ready w t (conditions_of w t)) xs → AreAccumulators (fragment_with w t xs) N w.fragment.loop (named_accumulators w t (conditions_of w t) xs) (fragment_with w t xs).accs
are_accumulators w c t N xs known at ty y e b is all =
    let F : Fragment = fragment_with w t xs in
    let cs : List Form = conditions_of w t in
    outer_are w c t N F known at ty y e b is cs xs all (flags_from w t cs 0 w.sites) (flags_are w t F N w.fragment.loop cs 0 w.sites (flags_in_loops w c t N F known))

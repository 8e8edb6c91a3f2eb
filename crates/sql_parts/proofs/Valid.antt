-- What a valid fragment says of its accumulators with their choices.
use Rattle.std.proofs.Common.{◌≡◌, ℕ, zero, suc, ◌+◌, ◌<◌, Bool, true, false, cond, ◌&&◌, ◌||◌, List, [], ◌∷◌, map, take, drop, length, slice_get, refl, sym, ap, ap₂, ◌∙◌, subst, arith, nat_eq, nat_lt, nat_le}
use Rattle.std.specs.List.{AllByRecursion, list_all, list_any, take-map}
use Rattle.std.specs.declared.option.Option.{Option}
use Rattle.std.specs.declared.option.Option.TheVariants.{Some}
use Rattle.std.proofs.lemmas.Bool.Decides.{nat_tests}
use Rattle.tor_terms.specs.Plain.{Form}
use Rattle.tor_terms.specs.Truth.{has_loop, form_within}
use Rattle.kernel_lang.specs.Plain.{Accumulator, Fragment}
use Rattle.kernel_lang.specs.Pools.{Member, chosen, members_from, members}
use Rattle.kernel_lang.specs.Postcondition.{loops_of}
use Rattle.kernel_lang.specs.Running.{layers, layers_of, outside, inside}
use Rattle.kernel_lang.specs.Sentences.{AccumulatorIsValid, IsValid}
use Rattle.kernel_lang.specs.Validity.{all_formulas, guard_all, loops_are_there, element_is_there, element_of, accumulator_is_there, chain_is_valid, rises, rises_after, guards_within, element_within, reads_its_chain, reads_no_flag, flag_is_quiet, formula_is_there}
use Rattle.kernel_lang.proofs.Listing.{and_four, and_left, and_right, and_three, some_eq}
use Rattle.sql_parts.proofs.Tools.{or_right, eq_true, lt_of}

-- ---- members

-- what is chosen of a pool passes what all of it does
pub chosen_pass : (test : Form → Bool) (cand : List ℕ) (n : ℕ) (fs : List Form) → list_all test fs ≡ true → list_all test (chosen cand n fs) ≡ true
chosen_pass test cand n [] h = refl
chosen_pass test cand n (f ∷ fs) h = go (list_any (nat_eq n) cand) (chosen_pass test cand (suc n) fs (and_right (test f) (list_all test fs) h))
  where
    go : (b : Bool) → list_all test (chosen cand (suc n) fs) ≡ true → list_all test (cond b (f ∷ chosen cand (suc n) fs) (chosen cand (suc n) fs)) ≡ true
    go true e = ap₂ (λ x y. x && y) (and_left (test f) (list_all test fs) h) e
    go false e = e

chosen_none : (cand : List ℕ) (n : ℕ) (fs : List Form) → fs ≡ [] → chosen cand n fs ≡ []
chosen_none cand n [] e = refl
chosen_none cand n (f ∷ fs) e = absurd cc

pub record IsValidMember (f : Fragment) (m : Member) : Type 0 where
  pub valid : AccumulatorIsValid f m.0
  pub pass : (test : Form → Bool) → list_all test m.0.pool ≡ true → list_all test m.1 ≡ true
  pub empty : m.0.pool ≡ [] → m.1 ≡ []

members_valid : (f : Fragment) (cand : List ℕ) (n : ℕ) (accs : List Accumulator) → AllByRecursion (AccumulatorIsValid f) accs → AllByRecursion (IsValidMember f) (members_from cand n accs)
members_valid f cand n [] h = tt
members_valid f cand n (a ∷ accs) h = (record { valid = h.0; pass = λ test k. chosen_pass test cand n a.pool k; empty = λ e. chosen_none cand n a.pool e }, members_valid f cand (n + length a.pool) accs h.1)

pub all_members : (f : Fragment) (cand : List ℕ) → IsValid f → AllByRecursion (IsValidMember f) (members f cand)
all_members f cand v = members_valid f cand 0 f.accs v.accs

-- the member of an accumulator
pub record MemberAt (a : Accumulator) (ms : List Member) (k : ℕ) : Type 0 where
  pub choice : List Form
  pub there : slice_get ms k ≡ Some (a, choice)

pub member_at : (cand : List ℕ) (n : ℕ) (accs : List Accumulator) (k : ℕ) (a : Accumulator) → slice_get accs k ≡ Some a → MemberAt a (members_from cand n accs) k
member_at cand n [] k a e = absurd cc
member_at cand n (b ∷ accs) zero a e = subst (λ x. MemberAt x (members_from cand n (b ∷ accs)) 0) (some_eq b a e) (record { choice = chosen cand n b.pool; there = refl })
member_at cand n (b ∷ accs) (suc k) a e = let m = member_at cand (n + length b.pool) accs k a e in record { choice = m.choice; there = m.there }

-- ---- chains

pub loops_layers : (js : List ℕ) (gs : List (Option Form)) → loops_of (layers js gs) ≡ js
loops_layers [] gs = refl
loops_layers (j ∷ js) [] = ap (λ ks. j ∷ ks) (loops_layers js [])
loops_layers (j ∷ js) (g ∷ gs) = ap (λ ks. j ∷ ks) (loops_layers js gs)

drop_map : {X Y : Type 0} (f : X → Y) (n : ℕ) (xs : List X) → drop n (map f xs) ≡ map f (drop n xs)
drop_map f zero xs = refl
drop_map f (suc n) [] = refl
drop_map f (suc n) (x ∷ xs) = drop_map f n xs

pub outside_loops : (a : Accumulator) → take a.base a.chain ≡ loops_of (outside a)
outside_loops a = ap (take a.base) (sym (loops_layers a.chain a.guards)) ∙ take-map (λ y. y.over) a.base (layers_of a)

pub inside_loops : (a : Accumulator) → drop a.base a.chain ≡ loops_of (inside a)
inside_loops a = ap (drop a.base) (sym (loops_layers a.chain a.guards)) ∙ drop_map (λ y. y.over) a.base (layers_of a)

pub chain_parts : (f : Fragment) (a : Accumulator) → AccumulatorIsValid f a → (nat_le (length a.chain) 3 ≡ true) × (rises a.chain ≡ true) × (a.base < length a.chain)
unfolding chain_is_valid
chain_parts f a v =
    let r = and_four (nat_le (length a.chain) 3) (rises a.chain) (nat_lt a.base (length a.chain)) (nat_eq (length a.guards) (length a.chain)) v.chain in
    (r.0, r.1, lt_of a.base (length a.chain) r.2)

pub chain_there : (f : Fragment) (a : Accumulator) → AccumulatorIsValid f a → list_all (λ j. nat_lt j (length f.lists)) a.chain ≡ true
unfolding accumulator_is_there
chain_there f a v = (and_three (loops_are_there f a.chain) (element_is_there f (element_of a.update)) (all_formulas (formula_is_there (length f.atoms)) a) v.names).0

pub pool_within : (f : Fragment) (a : Accumulator) → AccumulatorIsValid f a → list_all (form_within f.atoms a.chain) a.pool ≡ true
unfolding reads_its_chain
pool_within f a v = (and_three (guards_within f.atoms a.chain 1 a.guards) (list_all (form_within f.atoms a.chain) a.pool) (element_within a.chain (element_of a.update)) v.loops).1

pub element_in : (f : Fragment) (a : Accumulator) → AccumulatorIsValid f a → element_within a.chain (element_of a.update) ≡ true
unfolding reads_its_chain
element_in f a v = (and_three (guards_within f.atoms a.chain 1 a.guards) (list_all (form_within f.atoms a.chain) a.pool) (element_within a.chain (element_of a.update)) v.loops).2

not_zero : (n : ℕ) → nat_lt 0 n ≡ true → nat_eq n 0 ≡ false
not_zero n h = grind (arith, nat_tests)

pub pool_quiet : (f : Fragment) (a : Accumulator) → AccumulatorIsValid f a → nat_lt 0 a.base ≡ true → list_all (reads_no_flag f.atoms) a.pool ≡ true
unfolding flag_is_quiet
pool_quiet f a v h =
    let q : all_formulas (reads_no_flag f.atoms) a ≡ true = sym (ap (λ x. x || all_formulas (reads_no_flag f.atoms) a) (not_zero a.base h)) ∙ v.quiet in
    and_right (list_all (guard_all (reads_no_flag f.atoms)) a.guards) (list_all (reads_no_flag f.atoms) a.pool) q

-- ---- loops of a chain that rises

above : (j : ℕ) (js : List ℕ) (k : ℕ) → rises_after j js ≡ true → has_loop js k ≡ true → j < k
above j [] k r h = absurd cc
above j (i ∷ js) k r h = go (nat_eq i k) refl h (λ l. above i js k (and_right (nat_lt j i) (rises_after i js) r) l)
  where
    first : j < i
    first = lt_of j i (and_left (nat_lt j i) (rises_after i js) r)

    go : (b : Bool) → nat_eq i k ≡ b → (b || has_loop js k) ≡ true → (has_loop js k ≡ true → i < k) → j < k
    go true e h later = subst (λ n. j < n) (eq_true i k e) first
    go false e h later = let l : i < k = later h in omega (arith, first, l)

pub rises_rest : (j : ℕ) (js : List ℕ) → rises_after j js ≡ true → rises js ≡ true
rises_rest j [] r = refl
rises_rest j (k ∷ js) r = and_right (nat_lt j k) (rises_after k js) r

pub in_drop : (n : ℕ) (js : List ℕ) (k : ℕ) → has_loop (drop n js) k ≡ true → has_loop js k ≡ true
in_drop zero js k h = h
in_drop (suc n) [] k h = h
in_drop (suc n) (j ∷ js) k h = or_right (nat_eq j k) (has_loop js k) (in_drop n js k h)

not_below : (k : ℕ) → k < k → ⊥
not_below k h = omega (arith, h)

pub apart : (n : ℕ) (js : List ℕ) (k : ℕ) → rises js ≡ true → has_loop (take n js) k ≡ true → has_loop (drop n js) k ≡ false
apart zero js k r h = absurd cc
apart (suc n) [] k r h = absurd cc
apart (suc n) (j ∷ js) k r h = go (nat_eq j k) refl h (λ i. apart n js k (rises_rest j js r) i)
  where
    none : (b : Bool) → has_loop (drop n js) k ≡ b → j ≡ k → has_loop (drop n js) k ≡ false
    none false e same = e
    none true e same = absurd (not_below k (subst (λ i. i < k) same (above j js k r (in_drop n js k e))))

    go : (b : Bool) → nat_eq j k ≡ b → (b || has_loop (take n js) k) ≡ true → (has_loop (take n js) k ≡ true → has_loop (drop n js) k ≡ false) → has_loop (drop n js) k ≡ false
    go true e h later = none (has_loop (drop n js) k) refl (eq_true j k e)
    go false e h later = later h

pub in_parts : (n : ℕ) (js : List ℕ) (k : ℕ) → has_loop js k ≡ true → has_loop (drop n js) k ≡ false → has_loop (take n js) k ≡ true
in_parts zero js k h e = absurd cc
in_parts (suc n) [] k h e = absurd cc
in_parts (suc n) (j ∷ js) k h e = go (nat_eq j k) h (λ i. in_parts n js k i e)
  where
    go : (b : Bool) → (b || has_loop js k) ≡ true → (has_loop js k ≡ true → has_loop (take n js) k ≡ true) → (b || has_loop (take n js) k) ≡ true
    go true h later = refl
    go false h later = later h

-- What is counted of a fragment.
use Rattle.std.proofs.Common.{◌≡◌, ℕ, suc, ◌+◌, ◌<◌, ◌≤◌, Bool, true, false, not, ◌&&◌, List, [], ◌∷◌, ◌++◌, length, map, nat_le, Option, Some, None, refl, sym, ap, ap₂, ◌∙◌, subst, arith, ◌⊎◌, inl, inr, ⊎_elim}
use Rattle.std.specs.List.{list_all}
use Rattle.std.proofs.lemmas.Bool.{and_parts, cases_lt, leb-true}
use Rattle.std.proofs.lemmas.Bool.Decides.{nat_tests}
use Rattle.std.proofs.lemmas.List.{map-append, take-map, take_all, length-map}
use Rattle.tor_terms.specs.Plain.{Form}
use Rattle.kernel_lang.specs.Plain.{Accumulator}
use Rattle.kernel_lang.specs.Plain as kernel
use Rattle.tor_terms.specs.declared.term.Atom.{Atom}
use Rattle.kernel_lang.specs.Pools.{pool_of}
use Rattle.kernel_lang.specs.Validity.{count_own, count_conditions}
use Rattle.lowering.specs.InCode.Capped.{has_few}
use Rattle.lowering.specs.InCode.Counted.{HasFewLoops, AreNumbersOf}
use Rattle.loop_text.specs.Statements.Fragment.{accumulators, needed_of}
use Rattle.java_loops.specs.Kernel.Kernel.{broken_counts, has_small_pool, is_small}
use Rattle.loop_text.specs.Kernel.KernelLists.{count_loops}
use Rattle.loop_text.specs.Kernel.KernelStarts.{Numbered, update_of, update_of_flag}
use Rattle.java_loops.specs.Lowering.Lowered.{accumulator_of, accumulators_of, conditions_of, flag_here, flags_from, fragment_with, lists_of, outer_accumulators, type_of_entry}
use Rattle.java_ast.specs.Names.{Names}
use Rattle.java_loops.specs.Lowering.Numbering.{Numbers, numbers_of, count_flags}
use Rattle.java_loops.specs.Kernel.Setting.{Setting}
use Rattle.loop_text.specs.Sites.Sites.{Site, Round, declared_name, place_of, place_where}
use Rattle.java_loops.proofs.Valid.ValidChains.{lists_count}

pub ruleset counting = (take-map, take_all, length-map)

-- ---- Accumulators by their pools

abbrev with_pool : Numbers → List Form → Accumulator → Accumulator
with_pool t conditions a = record { chain = a.chain; base = a.base; guards = a.guards; update = a.update; start = a.start; opposite = a.opposite; pool = pool_of t.atoms conditions a.chain a.base }

one_with : (w : Setting) (t : Numbers) (cs : List Form) (x : List ℕ) (base : ℕ) (u : Option Numbered) → accumulator_of w t cs x base u ≡ map (with_pool t cs) (accumulator_of w t [] x base u)
one_with w t cs x base (Some u) = refl
one_with w t cs x base None = refl

outer_with : (w : Setting) (t : Numbers) (cs : List Form) (xs : Names) → outer_accumulators w t cs xs ≡ map (with_pool t cs) (outer_accumulators w t [] xs)
outer_with w t cs [] = refl
outer_with w t cs (x ∷ xs) =
    ap₂ (λ (xs ys : List Accumulator). xs ++ ys) (one_with w t cs x 0 (update_of w.sites x)) (outer_with w t cs xs)
    ∙ sym (map-append (with_pool t cs) (accumulator_of w t [] x 0 (update_of w.sites x)) (outer_accumulators w t [] xs))

flag_with : (w : Setting) (t : Numbers) (cs : List Form) (d : ℕ) (r : Round) (o : Option (List ℕ)) → flag_here w t cs d r o ≡ map (with_pool t cs) (flag_here w t [] d r o)
flag_with w t cs d r (Some x) = one_with w t cs x (length r.loops) (update_of_flag w.sites d)
flag_with w t cs d r None = refl

flags_with : (w : Setting) (t : Numbers) (cs : List Form) (d : ℕ) (ss : List Site) → flags_from w t cs d ss ≡ map (with_pool t cs) (flags_from w t [] d ss)
flags_with w t cs d [] = refl
flags_with w t cs d (s ∷ ss) =
    ap₂ (λ (xs ys : List Accumulator). xs ++ ys) (flag_with w t cs d s.round (declared_name s.statement)) (flags_with w t cs (suc d) ss)
    ∙ sym (map-append (with_pool t cs) (flag_here w t [] d s.round (declared_name s.statement)) (flags_from w t [] (suc d) ss))

all_with : (w : Setting) (t : Numbers) (cs : List Form) (xs : Names) → accumulators_of w t cs xs ≡ map (with_pool t cs) (accumulators_of w t [] xs)
all_with w t cs xs =
    ap₂ (λ (xs ys : List Accumulator). xs ++ ys) (outer_with w t cs xs) (flags_with w t cs 0 w.sites)
    ∙ sym (map-append (with_pool t cs) (outer_accumulators w t [] xs) (flags_from w t [] 0 w.sites))

pools_with : (t : Numbers) (cs : List Form) (accs : List Accumulator) → list_all has_small_pool (map (with_pool t cs) accs) ≡ list_all (has_few t.atoms cs) accs
pools_with t cs [] = refl
pools_with t cs (a ∷ accs) = ap (λ b. has_few t.atoms cs a && b) (pools_with t cs accs)

conditions_with : (t : Numbers) (cs : List Form) (accs : List Accumulator) → count_conditions (map (with_pool t cs) accs) ≡ count_conditions accs
conditions_with t cs [] = refl
conditions_with t cs (a ∷ accs) = ap (λ n. count_own a + n) (conditions_with t cs accs)

-- ---- The rule

le_true : (m n : ℕ) → m ≤ n → nat_le m n ≡ true
le_true m n h = grind (arith, nat_tests)

le_false : (m n : ℕ) → n < m → nat_le m n ≡ false
le_false m n h = grind (arith, nat_tests)

-- the tests of a fragment in their order
abbrev all_six : Bool → Bool → Bool → Bool → Bool → Bool → Bool
all_six a b c d e g = a && (b && (c && (d && (e && g))))

small_six : (a b c d e g : Bool) → b ≡ true → c ≡ true → d ≡ true → e ≡ true → all_six a b c d e g ≡ (a && g)
small_six a b c d e g p q r s = rw (p, q, r, s) refl

second : (a b c d e g : Bool) → b ≡ false → all_six a b c d e g ≡ false
second true b c d e g h = rw h refl
second false b c d e g h = refl

third : (a b c d e g : Bool) → c ≡ false → all_six a b c d e g ≡ false
third true true c d e g h = rw h refl
third true false c d e g h = refl
third false b c d e g h = refl

fourth : (a b c d e g : Bool) → d ≡ false → all_six a b c d e g ≡ false
fourth true true true d e g h = rw h refl
fourth true true false d e g h = refl
fourth true false c d e g h = refl
fourth false b c d e g h = refl

fifth : (a b c d e g : Bool) → e ≡ false → all_six a b c d e g ≡ false
fifth true true true true e g h = rw h refl
fifth true true true false e g h = refl
fifth true true false d e g h = refl
fifth true false c d e g h = refl
fifth false b c d e g h = refl

abbrev count_parts : Setting → ℕ
count_parts w = length (accumulators w.fragment) + count_flags w.sites

abbrev pools_of : kernel.Fragment → Bool
pools_of f = list_all has_small_pool f.accs

abbrev conditions_in : kernel.Fragment → Bool
conditions_in f = nat_le (count_conditions f.accs) 4096

-- pools and conditions decide, where the others are few
pub small_by : (w : Setting) (t : Numbers) (xs : Names) → HasFewLoops w → AreNumbersOf w t → is_small (count_parts w) (fragment_with w t xs) ≡ (list_all (has_few t.atoms (conditions_of w t)) (accumulators_of w t [] xs) && nat_le (count_conditions (accumulators_of w t [] xs)) 4096)
small_by w t xs few n =
    let f : kernel.Fragment = fragment_with w t xs in
    let cs : List Form = conditions_of w t in
    let lists : nat_le (length (lists_of w w.sites)) 256 ≡ true = ap (λ k. nat_le k 256) (lists_count w w.sites) ∙ le_true (count_loops w.sites) 256 few.loops in
    let entries : nat_le (length (map (type_of_entry w.schema w.types) t.entries)) 9 ≡ true = ap (λ k. nat_le k 9) (length-map t.entries (type_of_entry w.schema w.types)) ∙ le_true (length t.entries) 9 n.entries in
    let pools : list_all has_small_pool (accumulators_of w t cs xs) ≡ list_all (has_few t.atoms cs) (accumulators_of w t [] xs) = ap (list_all has_small_pool) (all_with w t cs xs) ∙ pools_with t cs (accumulators_of w t [] xs) in
    let conditions : count_conditions (accumulators_of w t cs xs) ≡ count_conditions (accumulators_of w t [] xs) = ap count_conditions (all_with w t cs xs) ∙ conditions_with t cs (accumulators_of w t [] xs) in
    small_six (pools_of f) (nat_le (length f.lists) 256) (nat_le (count_parts w) 8) (nat_le (length f.atoms) 24) (nat_le (length f.entries) 9) (conditions_in f)
    lists
    (le_true (count_parts w) 8 few.accs)
    (le_true (length t.atoms) 24 n.atoms)
    entries
    ∙ ap₂ (λ p k. p && nat_le k 4096) pools conditions

-- what is counted without pools: pools that are large, or conditions
pub small_then : (w : Setting) (t : Numbers) (xs : Names) (atoms : List Atom) (cs : List Form) (first second : List Accumulator) (p q : Bool) → HasFewLoops w → AreNumbersOf w t → atoms ≡ t.atoms → cs ≡ conditions_of w t → first ≡ accumulators_of w t [] xs → second ≡ accumulators_of w t [] xs → p ≡ list_all (has_few atoms cs) first → p ≡ true → q ≡ nat_le (count_conditions second) 4096 → q ≡ is_small (count_parts w) (fragment_with w t xs)
small_then w t xs atoms cs first second p q few n ea ec ef es is h k =
    let pools : list_all (has_few t.atoms (conditions_of w t)) (accumulators_of w t [] xs) ≡ true =
    ap (λ all. list_all (has_few t.atoms (conditions_of w t)) all) (sym ef)
    ∙ ap₂ (λ all ds. list_all (has_few all ds) first) (sym ea) (sym ec)
    ∙ sym is
    ∙ h in
    k
    ∙ ap (λ all. nat_le (count_conditions all) 4096) es
    ∙ ap (λ b. b && nat_le (count_conditions (accumulators_of w t [] xs)) 4096) (sym pools)
    ∙ sym (small_by w t xs few n)

pub small_else : (w : Setting) (t : Numbers) (xs : Names) (atoms : List Atom) (cs : List Form) (first : List Accumulator) (p : Bool) → HasFewLoops w → AreNumbersOf w t → atoms ≡ t.atoms → cs ≡ conditions_of w t → first ≡ accumulators_of w t [] xs → p ≡ list_all (has_few atoms cs) first → p ≡ false → false ≡ is_small (count_parts w) (fragment_with w t xs)
small_else w t xs atoms cs first p few n ea ec ef is h =
    let pools : list_all (has_few t.atoms (conditions_of w t)) (accumulators_of w t [] xs) ≡ false =
    ap (λ all. list_all (has_few t.atoms (conditions_of w t)) all) (sym ef)
    ∙ ap₂ (λ all ds. list_all (has_few all ds) first) (sym ea) (sym ec)
    ∙ sym is
    ∙ h in
    ap (λ b. b && nat_le (count_conditions (accumulators_of w t [] xs)) 4096) (sym pools)
    ∙ sym (small_by w t xs few n)

abbrev fragment_at : Setting → kernel.Fragment
fragment_at w = fragment_with w (numbers_of w) (needed_of w.fragment)

abbrev small_at : Setting → Bool
small_at w = is_small (count_parts w) (fragment_at w)

broken_if : (w : Setting) (b : Bool) → small_at w ≡ b → broken_counts w ≡ place_where (not b) (place_of w.fragment.loop)
broken_if w b e = ap (λ c. place_where (not c) (place_of w.fragment.loop)) e

same_small : (w : Setting) (t : Numbers) (xs : Names) → xs ≡ needed_of w.fragment → AreNumbersOf w t → is_small (count_parts w) (fragment_with w t xs) ≡ small_at w
same_small w t xs e n = ap₂ (λ u ys. is_small (count_parts w) (fragment_with w u ys)) n.are e

-- the fragment with the numbers of the setting is small, or it isn't
pub unbroken_small : (w : Setting) (t : Numbers) (xs : Names) (b : Bool) → xs ≡ needed_of w.fragment → AreNumbersOf w t → b ≡ is_small (count_parts w) (fragment_with w t xs) → b ≡ true → broken_counts w ≡ None
unbroken_small w t xs b e n is h = broken_if w true (sym (is ∙ same_small w t xs e n) ∙ h)

pub broken_large : (w : Setting) (t : Numbers) (xs : Names) (b : Bool) → xs ≡ needed_of w.fragment → AreNumbersOf w t → b ≡ is_small (count_parts w) (fragment_with w t xs) → b ≡ false → broken_counts w ≡ Some (place_of w.fragment.loop)
broken_large w t xs b e n is h = broken_if w false (sym (is ∙ same_small w t xs e n) ∙ h)

at_lists : (w : Setting) → nat_le (count_loops w.sites) 256 ≡ false → broken_counts w ≡ Some (place_of w.fragment.loop)
at_lists w h =
    let f : kernel.Fragment = fragment_at w in
    broken_if w false (second (pools_of f) (nat_le (length f.lists) 256) (nat_le (count_parts w) 8) (nat_le (length f.atoms) 24) (nat_le (length f.entries) 9) (conditions_in f) (ap (λ k. nat_le k 256) (lists_count w w.sites) ∙ h))

at_parts : (w : Setting) → nat_le (count_parts w) 8 ≡ false → broken_counts w ≡ Some (place_of w.fragment.loop)
at_parts w h =
    let f : kernel.Fragment = fragment_at w in
    broken_if w false (third (pools_of f) (nat_le (length f.lists) 256) (nat_le (count_parts w) 8) (nat_le (length f.atoms) 24) (nat_le (length f.entries) 9) (conditions_in f) h)

at_atoms : (w : Setting) → 24 < length (numbers_of w).atoms → broken_counts w ≡ Some (place_of w.fragment.loop)
at_atoms w h =
    let f : kernel.Fragment = fragment_at w in
    broken_if w false (fourth (pools_of f) (nat_le (length f.lists) 256) (nat_le (count_parts w) 8) (nat_le (length f.atoms) 24) (nat_le (length f.entries) 9) (conditions_in f) (le_false (length (numbers_of w).atoms) 24 h))

at_entries : (w : Setting) → 9 < length (numbers_of w).entries → broken_counts w ≡ Some (place_of w.fragment.loop)
at_entries w h =
    let f : kernel.Fragment = fragment_at w in
    broken_if w false (fifth (pools_of f) (nat_le (length f.lists) 256) (nat_le (count_parts w) 8) (nat_le (length f.atoms) 24) (nat_le (length f.entries) 9) (conditions_in f) (ap (λ k. nat_le k 9) (length-map (numbers_of w).entries (type_of_entry w.schema w.types)) ∙ le_false (length (numbers_of w).entries) 9 h))

-- more than 9 entry values, or else more than 24 atoms
pub broken_many : (w : Setting) → (length (numbers_of w).entries ≤ 9 → 24 < length (numbers_of w).atoms) → broken_counts w ≡ Some (place_of w.fragment.loop)
broken_many w h = ⊎_elim (at_entries w) (λ k. at_atoms w (h k)) (cases_lt 9 (length (numbers_of w).entries))

few_of : (m n : ℕ) (b : Bool) → b ≡ (nat_le m 256 && nat_le n 8) → b ≡ true → (m ≤ 256) × (n ≤ 8)
few_of m n b is h = let p = and_parts (nat_le m 256) (nat_le n 8) (sym is ∙ h) in (leb-true m 256 p.0, leb-true n 8 p.1)

-- loops, accumulators and flags are few, or they aren't
pub few_loops : (w : Setting) (xs : Names) (b : Bool) → xs ≡ accumulators w.fragment → b ≡ (nat_le (count_loops w.sites) 256 && nat_le (length xs + count_flags w.sites) 8) → b ≡ true → HasFewLoops w
few_loops w xs b e is h =
    let p = few_of (count_loops w.sites) (length xs + count_flags w.sites) b is h in
    record { loops = p.0; accs = subst (λ ys. length ys + count_flags w.sites ≤ 8) e p.1 }

and_cases : (a b : Bool) → (a && b) ≡ false → (a ≡ false) ⊎ (b ≡ false)
and_cases true b h = inr h
and_cases false b h = inl refl

pub many_loops : (w : Setting) (xs : Names) (b : Bool) → xs ≡ accumulators w.fragment → b ≡ (nat_le (count_loops w.sites) 256 && nat_le (length xs + count_flags w.sites) 8) → b ≡ false → broken_counts w ≡ Some (place_of w.fragment.loop)
many_loops w xs b e is h = ⊎_elim (at_lists w) (λ k. at_parts w (subst (λ ys. nat_le (length ys + count_flags w.sites) 8 ≡ false) e k)) (and_cases (nat_le (count_loops w.sites) 256) (nat_le (length xs + count_flags w.sites) 8) (sym is ∙ h))

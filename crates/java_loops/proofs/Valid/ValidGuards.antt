-- Guards of a lowered fragment name atoms that are there, and read loops up to their level alone.
use Rattle.std.proofs.Common.{◌≡◌, ℕ, zero, suc, ◌+◌, Bool, true, false, List, [], ◌∷◌, length, map, take, Option, Some, None, sym, ap, ◌∙◌, subst, cond, slice_get, nat_lt, arith}
use Rattle.std.specs.List.{AllByRecursion, list_all, take-map}
use Rattle.std.proofs.lemmas.Bool.{lt-ltb, eqb-true}
use Rattle.std.proofs.lemmas.Option.{slice_get_within}
use Rattle.java_ast.specs.Tree.{Expression}
use Rattle.java_mean.specs.Typing.{Frame}
use Rattle.kernel_lang.specs.Validity.{guard_all, formula_is_there, guards_within}
use Rattle.tor_terms.specs.declared.term.Atom.{Atom}
use Rattle.tor_terms.specs.Truth.{known_within, form_within, atom_within}
use Rattle.loop_text.specs.Kernel.KernelConditions.{leaves, is_excepted, condition_of}
use Rattle.java_loops.specs.Lowering.Lowered.{guard_at, guards_from}
use Rattle.java_loops.specs.Lowering.Numbering.{Leaf, leaves_kept, leaves_of, leaves_from, all_leaves, number_where, same_atom, numbers_of, entries_of, known_of, reading_of, loop_number}
use Rattle.java_loops.specs.Kernel.Setting.{Setting}
use Rattle.loop_text.specs.Sites.Sites.{Site, Test, Round}
use Rattle.java_loops.proofs.Standing.StandingRules.{get_same}
use Rattle.java_loops.proofs.Valid.ValidForms.{all_numbers, within_numbers, there_numbers, guard_same, all_front, all_back, LeafPasses, condition_passes, TestPasses, guard_passes, guards_all, guards_in}
use Rattle.java_loops.proofs.Valid.ValidLeaves.{LeafStands, LeafIs, condition_stands}
use Rattle.java_loops.proofs.Valid.ValidLoop.{Checked}
use Rattle.java_loops.proofs.Valid.ValidNumbers.{HasNumber, leaves_numbered}
use Rattle.java_loops.proofs.Valid.ValidOperands.{AnyRow, any_nested, any_first, chain_at, leaf_within}
use Rattle.java_loops.proofs.Valid.ValidVisits.{all_weaker, TestStands, RoundStands}

-- ---- The leaves of one condition among all leaves

kept_step : (Q : ℕ → Expression → Type 0) (n : ℕ) (e : Expression) (ls : List Leaf) (b : Bool) → AllByRecursion (LeafIs Q) (cond b ls (record { number = n; expression = e } ∷ ls)) → (b ≡ false → Q n e) × AllByRecursion (LeafIs Q) ls
kept_step Q n e ls true a = (λ h. absurd cc, a)
kept_step Q n e ls false a = (λ h. a.0, a.1)

kept_back : (Q : ℕ → Expression → Type 0) (sites : List Site) (n : ℕ) (es : List Expression) → AllByRecursion (LeafIs Q) (leaves_kept sites n es) → AllByRecursion (λ e. is_excepted sites n e ≡ false → Q n e) es
kept_back Q sites n [] a = tt
kept_back Q sites n (e ∷ es) a = let p = kept_step Q n e (leaves_kept sites n es) (is_excepted sites n e) a in (p.0, kept_back Q sites n es p.1)

abbrev Conditional : (ℕ → Expression → Type 0) → List Site → ℕ → Expression → Type 0
Conditional Q sites n e = AllByRecursion (λ q. is_excepted sites n q ≡ false → Q n q) (leaves e)

first_back : (Q : ℕ → Expression → Type 0) (sites : List Site) (n : ℕ) (o : Option Expression) (e : Expression) → AllByRecursion (LeafIs Q) (leaves_of sites n o) → o ≡ Some e → Conditional Q sites n e
first_back Q sites n None e a h = absurd cc
first_back Q sites n (Some q) e a h = let same : q ≡ e = cc in subst (λ z. Conditional Q sites n z) same (kept_back Q sites n (leaves q) a)

from_back : (Q : ℕ → Expression → Type 0) (sites : List Site) (n : ℕ) (ss : List Site) (i m : ℕ) (s : Site) (e : Expression) → n + i ≡ m → AllByRecursion (LeafIs Q) (leaves_from sites n ss) → slice_get ss i ≡ Some s → condition_of s.statement ≡ Some e → Conditional Q sites m e
from_back Q sites n [] i m s e sum a there h = absurd cc
from_back Q sites n (t ∷ ss) zero m s e sum a there h =
    let same : t ≡ s = cc in
    let at : n ≡ m = omega arith in
    subst (λ k. Conditional Q sites k e) at (first_back Q sites n (condition_of t.statement) e (all_front (LeafIs Q) (leaves_of sites n (condition_of t.statement)) (leaves_from sites (suc n) ss) a) (ap (λ (z : Site). condition_of z.statement) same ∙ h))
from_back Q sites n (t ∷ ss) (suc i) m s e sum a there h =
    from_back Q sites (suc n) ss i m s e (omega arith) (all_back (LeafIs Q) (leaves_of sites n (condition_of t.statement)) (leaves_from sites (suc n) ss) a) there h

-- what holds of all leaves holds of those of a condition
pub leaves_among_all : (Q : ℕ → Expression → Type 0) (sites : List Site) (n : ℕ) (s : Site) (e : Expression) → AllByRecursion (λ (l : Leaf). Q l.number l.expression) (all_leaves sites) → slice_get sites n ≡ Some s → condition_of s.statement ≡ Some e → AllByRecursion (λ q. is_excepted sites n q ≡ false → Q n q) (leaves e)
leaves_among_all Q sites n s e a there h = from_back Q sites 0 sites n n s e (omega arith) a there h

abbrev pub IsNumbered : Setting → ℕ → Expression → Type 0
IsNumbered w n e = HasNumber (numbers_of w).atoms (reading_of w (entries_of w) (known_of w) n e).atom

-- a leaf with its atom's number
pub record LeafNumbered (w : Setting) (c : Frame) (n : ℕ) (e : Expression) : Type 0 where
  pub stands : LeafStands AnyRow w c n e
  pub numbered : IsNumbered w n e

zip_leaves : (P Q : Expression → Type 0) (b : Expression → Bool) (es : List Expression) → AllByRecursion (λ e. b e ≡ false → P e) es → AllByRecursion (λ e. b e ≡ false → Q e) es → AllByRecursion (λ e. b e ≡ false → P e × Q e) es
zip_leaves P Q b [] p q = tt
zip_leaves P Q b (e ∷ es) p q = (λ h. (p.0 h, q.0 h), zip_leaves P Q b es p.1 q.1)

pub condition_numbered : (w : Setting) (c : Frame) → Checked w c → (n : ℕ) (s : Site) (e : Expression) → slice_get w.sites n ≡ Some s → condition_of s.statement ≡ Some e → AllByRecursion (λ q. is_excepted w.sites n q ≡ false → LeafNumbered w c n q) (leaves e)
condition_numbered w c is n s e there h =
    let stands = condition_stands AnyRow w c is (any_first c w.fragment.loop) (any_nested w c is) n s e there h in
    let numbered = leaves_among_all (λ k q. IsNumbered w k q) w.sites n s e (leaves_numbered w (entries_of w) (known_of w) (all_leaves w.sites)) there h in
    all_weaker (λ q. is_excepted w.sites n q ≡ false → LeafStands AnyRow w c n q × IsNumbered w n q) (λ q. is_excepted w.sites n q ≡ false → LeafNumbered w c n q) (leaves e) (λ q f i. let p = f i in record { stands = p.0; numbered = p.1 }) (zip_leaves (LeafStands AnyRow w c n) (IsNumbered w n) (λ q. is_excepted w.sites n q) (leaves e) stands numbered)

-- ---- Guards of a round

-- what holds of the number of each leaf of the conditions round a place at a level holds of the guard of that level
pub level_passes : (test : ℕ → Bool) (w : Setting) (c : Frame) → Checked w c → (r : Round) (n level : ℕ) → RoundStands w.sites n r → ((t : Test) (s : TestStands w.sites r.loops t) → t.level ≡ level → (q : Expression) → LeafNumbered w c t.number q → test (number_where (same_atom (reading_of w (entries_of w) (known_of w) t.number q).atom) (numbers_of w).atoms) ≡ true) → guard_all (all_numbers test) (guard_at w (numbers_of w) r level) ≡ true
level_passes test w c is r n level round h =
    guard_passes test w (numbers_of w) r level
    (all_weaker (TestStands w.sites r.loops) (TestPasses test w (numbers_of w) level) r.tests
    (λ t s e. condition_passes test w (numbers_of w) t.number t.holds t.condition
    (all_weaker (λ q. is_excepted w.sites t.number q ≡ false → LeafNumbered w c t.number q) (LeafPasses test w (numbers_of w) t.number) (leaves t.condition)
    (λ q l i. h t s (eqb-true t.level level e) q (l i))
    (condition_numbered w c is t.number s.site t.condition s.there s.is)))
    round.tests)

leaf_known : (w : Setting) (c : Frame) (r : Round) (t : Test) (s : TestStands w.sites r.loops t) (level : ℕ) → t.level ≡ level → (q : Expression) (l : LeafNumbered w c t.number q) → known_within (take level (chain_at w r)) (slice_get (numbers_of w).atoms (number_where (same_atom (reading_of w (entries_of w) (known_of w) t.number q).atom) (numbers_of w).atoms)) ≡ true
leaf_known w c r t s level same q l =
    let a : Atom = (reading_of w (entries_of w) (known_of w) t.number q).atom in
    let h : atom_within (chain_at w l.stands.visited.site.round) a ≡ true = leaf_within AnyRow w c t.number q l.stands (entries_of w) (known_of w) in
    let one : l.stands.visited.site ≡ s.site = get_same w.sites t.number l.stands.visited.site s.site l.stands.visited.there s.there in
    let loops : l.stands.visited.site.round.loops ≡ take level r.loops = ap (λ (z : Site). z.round.loops) one ∙ s.loops_of ∙ ap (λ k. take k r.loops) same in
    let chain : take level (chain_at w r) ≡ chain_at w l.stands.visited.site.round = take-map (loop_number w.sites) level r.loops ∙ ap (map (loop_number w.sites)) (sym loops) in
    ap (known_within (take level (chain_at w r))) l.numbered ∙ ap (λ k. atom_within k a) chain ∙ h

guard_in : (w : Setting) (c : Frame) → Checked w c → (r : Round) (n : ℕ) → RoundStands w.sites n r → (level : ℕ) → guard_all (form_within (numbers_of w).atoms (take level (chain_at w r))) (guard_at w (numbers_of w) r level) ≡ true
guard_in w c is r n round level =
    guard_same (form_within (numbers_of w).atoms (take level (chain_at w r))) (all_numbers (λ k. known_within (take level (chain_at w r)) (slice_get (numbers_of w).atoms k))) (within_numbers (numbers_of w).atoms (take level (chain_at w r))) (guard_at w (numbers_of w) r level)
    ∙ level_passes (λ k. known_within (take level (chain_at w r)) (slice_get (numbers_of w).atoms k)) w c is r n level round (λ t s same q l. leaf_known w c r t s level same q l)

-- the guards of a place read loops of its chain up to their level
pub guards_read_chain : (w : Setting) (c : Frame) → Checked w c → (r : Round) (n : ℕ) → RoundStands w.sites n r → guards_within (numbers_of w).atoms (chain_at w r) 1 (guards_from w (numbers_of w) r 1 r.loops) ≡ true
guards_read_chain w c is r n round = guards_in w (numbers_of w) r (chain_at w r) 1 r.loops (λ k. guard_in w c is r n round k)

guard_there : (w : Setting) (c : Frame) → Checked w c → (r : Round) (n : ℕ) → RoundStands w.sites n r → (level : ℕ) → guard_all (formula_is_there (length (numbers_of w).atoms)) (guard_at w (numbers_of w) r level) ≡ true
guard_there w c is r n round level =
    let many : ℕ = length (numbers_of w).atoms in
    guard_same (formula_is_there many) (all_numbers (λ k. nat_lt k many)) (there_numbers many) (guard_at w (numbers_of w) r level)
    ∙ level_passes (λ k. nat_lt k many) w c is r n level round (λ t s same q l. let a : Atom = (reading_of w (entries_of w) (known_of w) t.number q).atom in lt-ltb (number_where (same_atom a) (numbers_of w).atoms) many (slice_get_within (numbers_of w).atoms (number_where (same_atom a) (numbers_of w).atoms) a l.numbered))

-- the atoms of guards are there
pub guards_are_there : (w : Setting) (c : Frame) → Checked w c → (r : Round) (n : ℕ) → RoundStands w.sites n r → list_all (guard_all (formula_is_there (length (numbers_of w).atoms))) (guards_from w (numbers_of w) r 1 r.loops) ≡ true
guards_are_there w c is r n round = guards_all (formula_is_there (length (numbers_of w).atoms)) w (numbers_of w) r 1 r.loops (λ k. guard_there w c is r n round k)

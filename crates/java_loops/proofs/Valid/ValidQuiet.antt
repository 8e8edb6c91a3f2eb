-- The guards and the pool of a flag read no flag.
use Rattle.std.proofs.Common.{◌≡◌, ℕ, zero, suc, ◌<◌, Bool, true, false, not, ◌&&◌, List, [], ◌∷◌, length, Some, refl, ap, ◌∙◌, slice_get, nat_eq, arith}
use Rattle.std.specs.List.{AllByRecursion, list_any, list_all}
use Rattle.std.proofs.lemmas.Bool.{and_parts, or_left, or_right, eq-eqb, eqb-true}
use Rattle.std.proofs.Math.Dec.{eqb-suc-zero}
use Rattle.java_ast.specs.declared.tree.Op.TheVariants as ops
use Rattle.java_ast.specs.Tree.{Expression}
use Rattle.java_mean.specs.Typing.{Frame}
use Rattle.kernel_lang.specs.Validity.{guard_all, reads_no_flag, is_no_flag, flag_is_quiet}
use Rattle.java_loops.specs.Kernel.Kernel.{lowering}
use Rattle.loop_text.specs.Kernel.KernelConditions.{leaves, is_excepted, is_local, updates_flag_under, may_read, is_in_its_loops}
use Rattle.loop_text.specs.Kernel.KernelStarts.{Numbered}
use Rattle.loop_text.specs.Kernel.KernelStatements.{updates_local, target_bound}
use Rattle.java_loops.specs.Lowering.Lowered.{guard_at, guards_from, conditions_of}
use Rattle.java_loops.specs.Lowering.Numbering.{number_where, same_atom, numbers_of, entries_of, known_of, reading_of, operand_of}
use Rattle.java_loops.specs.Kernel.Setting.{Setting}
use Rattle.loop_text.specs.Sites.Sites.{Site, Test, Round, any_site, is_under, is_update, target_of, is_some}
use Rattle.java_loops.proofs.Standing.StandingRules.{fails_at}
use Rattle.java_loops.proofs.Valid.ValidAccumulators.{made}
use Rattle.java_loops.proofs.Valid.ValidFlags.{FlagStands}
use Rattle.java_loops.proofs.Valid.ValidForms.{all_numbers, quiet_numbers, guard_same, LeafPasses, condition_passes, TestPasses, guard_passes, guards_all, pool_quiet}
use Rattle.java_loops.proofs.Valid.ValidGuards.{LeafNumbered, condition_numbered}
use Rattle.java_loops.proofs.Valid.ValidLoop.{Checked}
use Rattle.java_loops.proofs.Valid.ValidOperands.{AnyRow, chain_at, leaf_shape, comparison_is, same_is, of_comparison}
use Rattle.java_loops.proofs.Valid.ValidPositions.{declared_inside}
use Rattle.java_loops.proofs.Valid.ValidShapes.{Shape, compares, equals, tests, reads, finds, flag_at}
use Rattle.java_loops.proofs.Valid.ValidStarts.{false_not}
use Rattle.java_loops.proofs.Valid.ValidVisits.{all_weaker, Visited, TestStands, RoundStands}

zip_tests : (P Q : Test → Type 0) (ts : List Test) → AllByRecursion P ts → AllByRecursion Q ts → AllByRecursion (λ t. P t × Q t) ts
zip_tests P Q [] a b = tt
zip_tests P Q (t ∷ ts) a b = ((a.0, b.0), zip_tests P Q ts a.1 b.1)

-- the same for tests of which more is known
pub tests_pass : (Q : Test → Type 0) (test : ℕ → Bool) (w : Setting) (c : Frame) → Checked w c → (r : Round) (n level : ℕ) → RoundStands w.sites n r → AllByRecursion Q r.tests → ((t : Test) (s : TestStands w.sites r.loops t) → Q t → t.level ≡ level → (q : Expression) → LeafNumbered w c t.number q → test (number_where (same_atom (reading_of w (entries_of w) (known_of w) t.number q).atom) (numbers_of w).atoms) ≡ true) → guard_all (all_numbers test) (guard_at w (numbers_of w) r level) ≡ true
tests_pass Q test w c is r n level round known h =
    guard_passes test w (numbers_of w) r level
    (all_weaker (λ t. TestStands w.sites r.loops t × Q t) (TestPasses test w (numbers_of w) level) r.tests
    (λ t p e. condition_passes test w (numbers_of w) t.number t.holds t.condition
    (all_weaker (λ q. is_excepted w.sites t.number q ≡ false → LeafNumbered w c t.number q) (LeafPasses test w (numbers_of w) t.number) (leaves t.condition)
    (λ q l i. h t p.0 p.1 (eqb-true t.level level e) q (l i))
    (condition_numbered w c is t.number p.0.site t.condition p.0.there p.0.is)))
    (zip_tests (TestStands w.sites r.loops) Q r.tests round.tests known))

-- ---- Tests round a place

abbrev IsIn : List Test → Test → Type 0
IsIn all t = list_any (λ (x : Test). nat_eq t.number x.number) all ≡ true

tests_in : (ts : List Test) → AllByRecursion (IsIn ts) ts
tests_in [] = tt
tests_in (t ∷ ts) =
    (or_left (nat_eq t.number t.number) (list_any (λ (x : Test). nat_eq t.number x.number) ts) (eq-eqb t.number t.number refl), all_weaker (IsIn ts) (IsIn (t ∷ ts)) ts (λ x h. or_right (nat_eq x.number t.number) (list_any (λ (z : Test). nat_eq x.number z.number) ts) h) (tests_in ts))

-- ---- Flags read no flag

flag_update_local : (w : Setting) (c : Frame) (d : ℕ) (s : Site) (u : Numbered) (x : List ℕ) (f : FlagStands w c d s u x) (i : ℕ) → is_under i u.site ≡ true → updates_flag_under w.sites i u.number u.site ≡ true
flag_update_local w c d s u x f i under =
    let one : is_update u.site.statement ≡ true = ap is_some f.update.target in
    let local : is_local (target_bound w.sites u.number (target_of u.site.statement)) ≡ true = ap (λ o. is_local (target_bound w.sites u.number o)) f.update.target ∙ ap is_local f.bound in
    rw (one, local, under) refl

not_read : (w : Setting) (c : Frame) (d : ℕ) (s : Site) (u : Numbered) (x : List ℕ) (f : FlagStands w c d s u x) (i k : ℕ) → is_under i u.site ≡ true → may_read w.sites i k ≡ true → ⊥
not_read w c d s u x f i k under h =
    let two = and_parts (any_site (λ j z. Rattle.std.specs.Prelude.nat_lt j i && updates_local w.sites k j z) 0 w.sites) (is_in_its_loops w.sites i (slice_get w.sites i) (slice_get w.sites k) && not (any_site (updates_flag_under w.sites i) 0 w.sites)) h in
    let more = and_parts (is_in_its_loops w.sites i (slice_get w.sites i) (slice_get w.sites k)) (not (any_site (updates_flag_under w.sites i) 0 w.sites)) two.1 in
    let none : updates_flag_under w.sites i u.number u.site ≡ false = fails_at (λ n z. updates_flag_under w.sites i n z) w.sites (false_not (any_site (updates_flag_under w.sites i) 0 w.sites) more.1) u.number u.site f.update.there in
    let some = flag_update_local w c d s u x f i under in
    absurd cc

shape_quiet : (w : Setting) (c : Frame) (n : ℕ) (v : Visited AnyRow c w.types w.sites n) (e : Expression) → Shape w c v.now n e → ((k : ℕ) → may_read w.sites n k ≡ true → ⊥) → is_no_flag (Some (reading_of w (entries_of w) (known_of w) n e).atom) ≡ true
shape_quiet w c n v _ (compares at op a b ty to takes i h) off = of_comparison (λ z. is_no_flag (Some z)) op (operand_of w (entries_of w) n a) (operand_of w (entries_of w) n b) _ (comparison_is op (operand_of w (entries_of w) n a) (operand_of w (entries_of w) n b)) refl refl refl refl
shape_quiet w c n v _ (equals at a b h) off = of_comparison (λ z. is_no_flag (Some z)) ops.Eq (operand_of w (entries_of w) n a) (operand_of w (entries_of w) n b) _ (same_is ops.Eq (operand_of w (entries_of w) n a) (operand_of w (entries_of w) n b)) refl refl refl refl
shape_quiet w c n v _ (tests at e f t h) off = refl
shape_quiet w c n v _ (reads at x k i h) off = let f = flag_at AnyRow c w.types w.sites n v x k i h in absurd (off f.number f.read)
shape_quiet w c n v _ (finds at x e k ty i has t h known) off = refl

guard_quiet : (w : Setting) (c : Frame) → Checked w c → (d : ℕ) (s : Site) (u : Numbered) (x : List ℕ) → FlagStands w c d s u x → (level : ℕ) → guard_all (reads_no_flag (numbers_of w).atoms) (guard_at w (numbers_of w) u.site.round level) ≡ true
guard_quiet w c is d s u x f level =
    guard_same (reads_no_flag (numbers_of w).atoms) (all_numbers (λ k. is_no_flag (slice_get (numbers_of w).atoms k))) (quiet_numbers (numbers_of w).atoms) (guard_at w (numbers_of w) u.site.round level)
    ∙ tests_pass (IsIn u.site.round.tests) (λ k. is_no_flag (slice_get (numbers_of w).atoms k)) w c is u.site.round u.number level f.update.round (tests_in u.site.round.tests)
    (λ t z under same q l. ap is_no_flag l.numbered ∙ shape_quiet w c t.number l.stands.visited q (leaf_shape AnyRow w c t.number q l.stands) (λ k h. not_read w c d s u x f t.number k under h))

not_zero : (n : ℕ) → 0 < n → nat_eq n 0 ≡ false
not_zero zero h = absurd (omega arith)
not_zero (suc n) h = eqb-suc-zero n

pub quiet_of_flag : (w : Setting) (c : Frame) → Checked w c → (d : ℕ) (s : Site) (u : Numbered) (x : List ℕ) → slice_get w.sites d ≡ Some s → FlagStands w c d s u x → flag_is_quiet (lowering w).fragment.atoms (made w x (length s.round.loops) u) ≡ true
unfolding flag_is_quiet
quiet_of_flag w c is d s u x there f =
    let r : Round = u.site.round in
    let inner : nat_eq (length s.round.loops) 0 ≡ false = not_zero (length s.round.loops) (declared_inside w c is d s x there f.declares) in
    or_right (nat_eq (length s.round.loops) 0) (list_all (guard_all (reads_no_flag (numbers_of w).atoms)) (guards_from w (numbers_of w) r 1 r.loops) && list_all (reads_no_flag (numbers_of w).atoms) (made w x (length s.round.loops) u).pool)
    (rw (guards_all (reads_no_flag (numbers_of w).atoms) w (numbers_of w) r 1 r.loops (λ k. guard_quiet w c is d s u x f k), pool_quiet (numbers_of w).atoms (conditions_of w (numbers_of w)) (chain_at w r) (length s.round.loops) inner) refl)

pub quiet_of_needed : (w : Setting) (u : Numbered) (x : List ℕ) → flag_is_quiet (lowering w).fragment.atoms (made w x 0 u) ≡ true
unfolding flag_is_quiet
quiet_of_needed w u x = refl

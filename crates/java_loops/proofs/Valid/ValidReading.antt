-- Flags of a lowered fragment are read at the level of their declaration, behind the guard round it.
use Rattle.std.proofs.Common.{◌≡◌, ℕ, zero, suc, ◌+◌, ◌<◌, ◌≤◌, Bool, true, false, not, ◌&&◌, List, [], ◌∷◌, ◌++◌, length, map, take, Option, Some, None, refl, sym, ap, ◌∙◌, subst, cond, slice_get, nat_eq, nat_le, arith, ⊎_elim, le_trans, le-leb}
use Rattle.std.specs.List.{AllByRecursion, filter}
use Rattle.std.proofs.lemmas.Bool.{and_parts, or_left, or_right, eq-eqb, eqb-true, cases_lt}
use Rattle.sql_ast.proofs.Combinations.{all_append}
use Rattle.java_ast.specs.declared.tree.Op.TheVariants as ops
use Rattle.java_ast.specs.Tree.{Expression}
use Rattle.java_mean.specs.Typing.{Frame}
use Rattle.kernel_lang.specs.Plain.{Accumulator}
use Rattle.kernel_lang.specs.Plain as kernel
use Rattle.kernel_lang.specs.Validity.{on_spine, guard_on_spine, same_guard, same_guards, flag_may_be_read, atom_may_be_read, part_may_be_read, guard_may_be_read, guards_may_be_read, reads_flags_in_place}
use Rattle.tor_terms.specs.Plain.{Form, Is, Both, Either}
use Rattle.tor_terms.specs.Same.{same_form, same_flag}
use Rattle.java_loops.specs.Kernel.Kernel.{lowering}
use Rattle.loop_text.specs.Kernel.KernelConditions.{is_in_its_loops, may_read, updates_flag_under}
use Rattle.loop_text.specs.Kernel.KernelForms.{tests_within}
use Rattle.loop_text.specs.Kernel.KernelStarts.{Numbered}
use Rattle.loop_text.specs.Kernel.KernelStatements.{updates_local}
use Rattle.java_loops.specs.Lowering.Lowered.{guard_joined, guard_at, guards_from}
use Rattle.java_loops.specs.Lowering.Numbering.{Numbers, numbers_of, entries_of, known_of, both_of, form_of_condition, loop_number, flag_reading, bound_reading, reading_of, operand_of}
use Rattle.java_loops.specs.Kernel.Setting.{Setting}
use Rattle.loop_text.specs.Sites.Sites.{Site, Test, Round, any_site}
use Rattle.java_loops.proofs.Standing.StandingRules.{get_same}
use Rattle.java_loops.proofs.Valid.ValidAccumulators.{UpdateStands, made}
use Rattle.java_loops.proofs.Valid.ValidFlags.{FlagStands, flag_stands}
use Rattle.java_loops.proofs.Valid.ValidForms.{all_numbers}
use Rattle.java_loops.proofs.Valid.ValidLoop.{Checked, site_visited}
use Rattle.java_loops.proofs.Valid.ValidNumbers.{numbers_self, numbers_true}
use Rattle.java_loops.proofs.Valid.ValidOperands.{AnyRow, any_first, any_nested, leaf_shape, comparison_is, same_is, of_comparison}
use Rattle.java_loops.proofs.Valid.ValidPositions.{flag_updated, flag_at_number, front_same}
use Rattle.java_loops.proofs.Valid.ValidQuiet.{tests_pass}
use Rattle.java_loops.proofs.Valid.ValidScope.{Under, longer}
use Rattle.java_loops.proofs.Valid.ValidShapes.{Shape, compares, equals, tests, reads, finds, FlagAt, flag_at}
use Rattle.java_loops.proofs.Valid.ValidVisits.{all_weaker, Visited, TestStands, TestUnder}

-- ---- Tests of a level

abbrev of_level : ℕ → List Test → List Test
of_level k ts = filter (λ (c : Test). nat_eq c.level k) ts

append_step : (k : ℕ) (t : Test) (xs ys : List Test) (b : Bool) → of_level k (xs ++ ys) ≡ of_level k xs ++ of_level k ys → cond b (t ∷ of_level k (xs ++ ys)) (of_level k (xs ++ ys)) ≡ cond b (t ∷ of_level k xs) (of_level k xs) ++ of_level k ys
append_step k t xs ys true h = ap (λ l. t ∷ l) h
append_step k t xs ys false h = h

level_append : (k : ℕ) (xs ys : List Test) → of_level k (xs ++ ys) ≡ of_level k xs ++ of_level k ys
level_append k [] ys = refl
level_append k (t ∷ xs) ys = append_step k t xs ys (nat_eq t.level k) (level_append k xs ys)

level_step : (k m : ℕ) (t : Test) (ts : List Test) (b : Bool) → nat_eq t.level k ≡ b → m ≤ t.level → k < m → of_level k ts ≡ [] → cond b (t ∷ of_level k ts) (of_level k ts) ≡ []
level_step k m t ts true e low high h = let same : t.level ≡ k = eqb-true t.level k e in absurd (omega (arith, same))
level_step k m t ts false e low high h = h

none_of_level : (k m : ℕ) (ts : List Test) → AllByRecursion (λ (t : Test). m ≤ t.level) ts → k < m → of_level k ts ≡ []
none_of_level k m [] a high = refl
none_of_level k m (t ∷ ts) a high = level_step k m t ts (nat_eq t.level k) refl a.0 high (none_of_level k m ts a.1 high)

nil_end : {A : Type 0} (xs : List A) → xs ++ [] ≡ xs
nil_end [] = refl
nil_end (x ∷ xs) = ap (λ l. x ∷ l) (nil_end xs)

front_level : (k m : ℕ) (p r : Round) (more : List Test) → r.tests ≡ p.tests ++ more → AllByRecursion (λ (t : Test). m ≤ t.level) more → k < m → of_level k r.tests ≡ of_level k p.tests
front_level k m p r more is a high = ap (of_level k) is ∙ level_append k p.tests more ∙ ap (λ l. of_level k p.tests ++ l) (none_of_level k m more a high) ∙ nil_end (of_level k p.tests)

front_guard : (w : Setting) (t : Numbers) (k m : ℕ) (p r : Round) (more : List Test) → r.tests ≡ p.tests ++ more → AllByRecursion (λ (c : Test). m ≤ c.level) more → k < m → guard_at w t r k ≡ guard_at w t p k
front_guard w t k m p r more is a high = ap (guard_joined w t None) (front_level k m p r more is a high)

-- ---- Tests of an update behind those of its flag

all_within : (l : ℕ) (ts more : List Test) → AllByRecursion (λ (t : Test). t.level ≤ l) ts → length (filter (λ (t : Test). nat_le t.level l) (ts ++ more)) ≡ length ts + length (filter (λ (t : Test). nat_le t.level l) more)
all_within l [] more a = omega arith
all_within l (t ∷ ts) more a =
    let e : length (filter (λ (x : Test). nat_le x.level l) ((t ∷ ts) ++ more)) ≡ suc (length (filter (λ (x : Test). nat_le x.level l) (ts ++ more))) = ap (λ b. length (cond b (t ∷ filter (λ (x : Test). nat_le x.level l) (ts ++ more)) (filter (λ (x : Test). nat_le x.level l) (ts ++ more)))) (le-leb t.level l a.0) in
    let f = all_within l ts more a.1 in
    omega (arith, e, f)

beyond_step : (l : ℕ) (t : Test) (ts : List Test) (b : Bool) → nat_le t.level l ≡ b → length (cond b (t ∷ filter (λ (x : Test). nat_le x.level l) ts) (filter (λ (x : Test). nat_le x.level l) ts)) ≡ 0 → (suc l ≤ t.level) × (length (filter (λ (x : Test). nat_le x.level l) ts) ≡ 0)
beyond_step l t ts true e h = absurd (omega (arith, h))
beyond_step l t ts false e h = (⊎_elim (λ (k : l < t.level). k) (λ (k : t.level ≤ l). absurd (let f : nat_le t.level l ≡ true = le-leb t.level l k in cc)) (cases_lt l t.level), h)

all_beyond : (l : ℕ) (ts : List Test) → length (filter (λ (x : Test). nat_le x.level l) ts) ≡ 0 → AllByRecursion (λ (t : Test). suc l ≤ t.level) ts
all_beyond l [] h = tt
all_beyond l (t ∷ ts) h = let p = beyond_step l t ts (nat_le t.level l) refl h in (p.0, all_beyond l ts p.1)

-- what stands round the update of a flag behind its declaration stands in a further loop
update_beyond : (s : Site) (q : Round) (under : Under s.round q) → AllByRecursion (λ (t : Test). t.level ≤ length s.round.loops) s.round.tests → tests_within (length s.round.loops) q ≡ length s.round.tests → AllByRecursion (λ (t : Test). suc (length s.round.loops) ≤ t.level) under.tests
update_beyond s q under low h =
    let l : ℕ = length s.round.loops in
    let e : length (filter (λ (t : Test). nat_le t.level l) (s.round.tests ++ under.tests)) ≡ length s.round.tests = ap (λ ts. length (filter (λ (t : Test). nat_le t.level l) ts)) (sym under.is_tests) ∙ h in
    let f = all_within l s.round.tests under.tests low in
    all_beyond l under.tests (omega (arith, e, f))

-- ---- Down the left parts

flag_self : (b : Bool) → same_flag b b ≡ true
flag_self true = refl
flag_self false = refl

form_self : (f : Form) → same_form f f ≡ true
form_self (Is k s) = rw (eq-eqb k k refl, flag_self s) refl
form_self (Both f g) = rw (form_self f, form_self g) refl
form_self (Either f g) = rw (form_self f, form_self g) refl

spine_self : (f : Form) → on_spine f f ≡ true
spine_self (Is k s) = form_self (Is k s)
spine_self (Both f g) = or_left (same_form (Both f g) (Both f g)) (on_spine (Both f g) f) (form_self (Both f g))
spine_self (Either f g) = form_self (Either f g)

spine_joined : (w : Setting) (t : Numbers) (p f q : Form) (cs : List Test) → on_spine p f ≡ true → guard_joined w t (Some f) cs ≡ Some q → on_spine p q ≡ true
spine_joined w t p f q [] h e = let same : f ≡ q = cc in subst (λ z. on_spine p z ≡ true) same h
spine_joined w t p f q (c ∷ cs) h e = go (λ g i j. spine_joined w t p g q cs i j) (form_of_condition w t c.number c.holds c.condition) e
  where
    go : ((g : Form) → on_spine p g ≡ true → guard_joined w t (Some g) cs ≡ Some q → on_spine p q ≡ true) → (o : Option Form) → guard_joined w t (both_of (Some f) o) cs ≡ Some q → on_spine p q ≡ true
    go more None i = more f h i
    go more (Some g) i = more (Both f g) (or_right (same_form p (Both f g)) (on_spine p f) h) i

guard_spine : (w : Setting) (t : Numbers) (o : Option Form) (q : Form) (cs : List Test) → guard_joined w t o cs ≡ Some q → guard_on_spine (Some o) q ≡ true
guard_spine w t None q cs e = refl
guard_spine w t (Some p) q cs e = spine_joined w t p p q cs (spine_self p) e

joined_append : (w : Setting) (t : Numbers) (g : Option Form) (xs ys : List Test) → guard_joined w t g (xs ++ ys) ≡ guard_joined w t (guard_joined w t g xs) ys
joined_append w t g [] ys = refl
joined_append w t g (c ∷ xs) ys = joined_append w t (both_of g (form_of_condition w t c.number c.holds c.condition)) xs ys

-- ---- Guards before a level

guard_self : (g : Option Form) → same_guard g g ≡ true
guard_self None = refl
guard_self (Some f) = form_self f

same_fronts : (w : Setting) (t : Numbers) (r b : Round) (n level : ℕ) (js ks : List ℕ) → n ≤ length js → n ≤ length ks → ((k : ℕ) → k < level + n → guard_at w t r k ≡ guard_at w t b k) → same_guards (take n (guards_from w t r level js)) (take n (guards_from w t b level ks)) ≡ true
same_fronts w t r b zero level js ks low high h = refl
same_fronts w t r b (suc n) level [] ks low high h = absurd (omega arith)
same_fronts w t r b (suc n) level (j ∷ js) [] low high h = absurd (omega arith)
same_fronts w t r b (suc n) level (j ∷ js) (k ∷ ks) low high h =
    rw (ap (same_guard (guard_at w t r level)) (sym (h level (omega arith))) ∙ guard_self (guard_at w t r level), same_fronts w t r b n (suc level) js ks (omega arith) (omega arith) (λ i l. h i (omega arith))) refl

guard_get : (w : Setting) (t : Numbers) (r : Round) (n level m : ℕ) (js : List ℕ) → n < length js → level + n ≡ m → slice_get (guards_from w t r level js) n ≡ Some (guard_at w t r m)
guard_get w t r n level m [] low e = absurd (omega arith)
guard_get w t r zero level m (j ∷ js) low e = let same : level ≡ m = omega arith in ap (λ k. Some (guard_at w t r k)) same
guard_get w t r (suc n) level m (j ∷ js) low e = guard_get w t r n (suc level) m js (omega arith) (omega arith)

-- ---- The flag of a guard

through : (p q r : Round) → Under p q → Under q r → Under p r
through p q r a b =
    let l : length p.loops ≤ length q.loops = longer p q a in
    record {
      loops = a.loops ++ b.loops;
      tests = a.tests ++ b.tests;
      is_loops = b.is_loops ∙ ap (λ z. z ++ b.loops) a.is_loops ∙ three p.loops a.loops b.loops;
      is_tests = b.is_tests ∙ ap (λ z. z ++ b.tests) a.is_tests ∙ three p.tests a.tests b.tests;
      levels = all_append (λ (t : Test). length p.loops ≤ t.level) a.tests b.tests a.levels (all_weaker (λ (t : Test). length q.loops ≤ t.level) (λ (t : Test). length p.loops ≤ t.level) b.tests (λ t h. le_trans l h) b.levels);
    }
  where
    three : {A : Type 0} (x y z : List A) → (x ++ y) ++ z ≡ x ++ (y ++ z)
    three [] y z = refl
    three (e ∷ x) y z = ap (λ k. e ∷ k) (three x y z)

take_length : (n : ℕ) (js : List ℕ) → n ≤ length js → length (take n js) ≡ n
take_length zero js h = refl
take_length (suc n) [] h = absurd (omega arith)
take_length (suc n) (j ∷ js) h = ap suc (take_length n js (omega arith))

-- the flag declared at s, whose update stands in the round b, is read in the guard q of the level n of the round r
flag_read : (w : Setting) (c : Frame) → Checked w c → (x : List ℕ) (base : ℕ) (u : Numbered) (n : ℕ) (q : Form) (d : ℕ) (s : Site) (y : List ℕ) (z : Numbered) → FlagStands w c d s z y → Under s.round u.site.round → AllByRecursion (λ (t : Test). t.level ≤ length s.round.loops) s.round.tests → length s.round.loops ≡ suc n → suc n ≤ length u.site.round.loops → guard_at w (numbers_of w) u.site.round (suc n) ≡ Some q → flag_may_be_read (made w x base u) n q (Some (made w y (length s.round.loops) z)) ≡ true
flag_read w c is x base u n q d s y z f under low level room guard =
    let r : Round = u.site.round in
    let b : Round = z.site.round in
    let p : Round = s.round in
    let t : Numbers = numbers_of w in
    let f' : ℕ → ℕ = loop_number w.sites in
    let beyond = update_beyond s b f.under low f.tests in
    let first : take (suc n) (map f' r.loops) ≡ map f' p.loops = ap (λ k. take k (map f' r.loops)) (sym level) ∙ ap (λ l. take (length p.loops) (map f' l)) under.is_loops ∙ front_same f' p.loops under.loops in
    let second : take (suc n) (map f' b.loops) ≡ map f' p.loops = ap (λ k. take k (map f' b.loops)) (sym level) ∙ ap (λ l. take (length p.loops) (map f' l)) f.under.is_loops ∙ front_same f' p.loops f.under.loops in
    let deeper : length p.loops < length b.loops = f.deeper in
    let room' : n < length b.loops = omega (arith, deeper, level) in
    let own : (k : ℕ) → k < 1 + n → guard_at w t r k ≡ guard_at w t b k = λ k l. front_guard w t k (length p.loops) p r under.tests under.is_tests under.levels (omega (arith, level, l)) ∙ sym (front_guard w t k (suc (length p.loops)) p b f.under.tests f.under.is_tests beyond (omega (arith, level, l))) in
    let here : guard_at w t b (suc n) ≡ guard_at w t p (suc n) = front_guard w t (suc n) (suc (length p.loops)) p b f.under.tests f.under.is_tests beyond (omega (arith, level)) in
    let joined : guard_at w t r (suc n) ≡ guard_joined w t (guard_at w t p (suc n)) (of_level (suc n) under.tests) = ap (λ ts. guard_joined w t None (of_level (suc n) ts)) under.is_tests ∙ ap (guard_joined w t None) (level_append (suc n) p.tests under.tests) ∙ joined_append w t None (of_level (suc n) p.tests) (of_level (suc n) under.tests) in
    let spine : guard_on_spine (slice_get (guards_from w t b 1 b.loops) n) q ≡ true = ap (λ o. guard_on_spine o q) (guard_get w t b n 1 (suc n) b.loops room' (omega arith)) ∙ ap (λ o. guard_on_spine (Some o) q) here ∙ guard_spine w t (guard_at w t p (suc n)) q (of_level (suc n) under.tests) (sym joined ∙ guard) in
    rw (eq-eqb (length p.loops) (suc n) level, first, second, numbers_self (map f' p.loops), same_fronts w t r b n 1 r.loops b.loops (omega arith) (omega (arith, room')) own, spine) refl

tests_low : (w : Setting) (c : Frame) → Checked w c → (d : ℕ) (s : Site) → slice_get w.sites d ≡ Some s → AllByRecursion (λ (t : Test). t.level ≤ length s.round.loops) s.round.tests
tests_low w c is d s there =
    let v : Visited AnyRow c w.types w.sites d = site_visited AnyRow w c is (any_first c w.fragment.loop) (any_nested w c is) d (Rattle.std.proofs.lemmas.Option.slice_get_within w.sites d s there) in
    let same : v.site ≡ s = get_same w.sites d v.site s v.there there in
    subst (λ (z : Site). AllByRecursion (λ (t : Test). t.level ≤ length z.round.loops) z.round.tests) same (all_weaker (TestStands w.sites v.site.round.loops) (λ (t : Test). t.level ≤ length v.site.round.loops) v.site.round.tests (λ t h. h.level) v.round.tests)

same_loops : (w : Setting) (i d : ℕ) (s z : Site) → slice_get w.sites i ≡ Some s → slice_get w.sites d ≡ Some z → may_read w.sites i d ≡ true → s.round.loops ≡ z.round.loops
same_loops w i d s z get there h =
    let two = and_parts (any_site (λ j x. Rattle.std.specs.Prelude.nat_lt j i && updates_local w.sites d j x) 0 w.sites) (is_in_its_loops w.sites i (slice_get w.sites i) (slice_get w.sites d) && not (any_site (updates_flag_under w.sites i) 0 w.sites)) h in
    let more = and_parts (is_in_its_loops w.sites i (slice_get w.sites i) (slice_get w.sites d)) (not (any_site (updates_flag_under w.sites i) 0 w.sites)) two.1 in
    let e : is_in_its_loops w.sites i (Some s) (Some z) ≡ true = ap (λ o. is_in_its_loops w.sites i o (Some z)) (sym get) ∙ ap (λ o. is_in_its_loops w.sites i (slice_get w.sites i) o) (sym there) ∙ more.0 in
    numbers_true s.round.loops z.round.loops e

read_at : (w : Setting) (c : Frame) → Checked w c → (x : List ℕ) (base : ℕ) (u : Numbered) (n : ℕ) (q : Form) → guard_at w (numbers_of w) u.site.round (suc n) ≡ Some q → (t : Test) (s : TestStands w.sites u.site.round.loops t) → TestUnder w.sites u.site.round t → t.level ≡ suc n → (v : Visited AnyRow c w.types w.sites t.number) (y : List ℕ) → (f : FlagAt w.sites v.site.round t.number y) → atom_may_be_read (lowering w).fragment (made w x base u) n q (Some (flag_reading w f.number (slice_get w.sites f.number)).atom) ≡ true
read_at w c is x base u n q guard t s o level v y f =
    let d : ℕ = f.number in
    let z : Site = f.declared.site in
    let there = f.declared.there in
    let up = flag_updated w c is d z y there f.declared.declares in
    let fs : FlagStands w c d z up.0 y = flag_stands w c is d z up.0 y there f.declared.declares up.1 in
    let one : v.site ≡ o.site = get_same w.sites t.number v.site o.site v.there o.there in
    let two : o.site ≡ s.site = get_same w.sites t.number o.site s.site o.there s.there in
    let under : Under z.round u.site.round = through z.round o.site.round u.site.round (subst (λ (k : Site). Under z.round k.round) one f.declared.under) o.under in
    let loops : s.site.round.loops ≡ z.round.loops = same_loops w t.number d s.site z s.there there f.read in
    let room : suc n ≤ length u.site.round.loops = subst (λ k. k ≤ length u.site.round.loops) level s.level in
    let size : length z.round.loops ≡ suc n = ap length (sym loops) ∙ ap length (s.loops_of ∙ ap (λ k. take k u.site.round.loops) level) ∙ take_length (suc n) u.site.round.loops room in
    ap (λ k. atom_may_be_read (lowering w).fragment (made w x base u) n q (Some (flag_reading w d k).atom)) there
    ∙ ap (flag_may_be_read (made w x base u) n q) (flag_at_number w c is d z y up.0 there f.declared.declares up.1)
    ∙ flag_read w c is x base u n q d z y up.0 fs under (tests_low w c is d z there) size room guard

shape_read : (w : Setting) (c : Frame) → Checked w c → (x : List ℕ) (base : ℕ) (u : Numbered) (n : ℕ) (q : Form) → guard_at w (numbers_of w) u.site.round (suc n) ≡ Some q → (t : Test) (s : TestStands w.sites u.site.round.loops t) → TestUnder w.sites u.site.round t → t.level ≡ suc n → (v : Visited AnyRow c w.types w.sites t.number) (e : Expression) → Shape w c v.now t.number e → atom_may_be_read (lowering w).fragment (made w x base u) n q (Some (reading_of w (entries_of w) (known_of w) t.number e).atom) ≡ true
shape_read w c is x base u n q guard t s o level v _ (compares at op a b ty to takes i h) = of_comparison (λ z. atom_may_be_read (lowering w).fragment (made w x base u) n q (Some z)) op (operand_of w (entries_of w) t.number a) (operand_of w (entries_of w) t.number b) _ (comparison_is op (operand_of w (entries_of w) t.number a) (operand_of w (entries_of w) t.number b)) refl refl refl refl
shape_read w c is x base u n q guard t s o level v _ (equals at a b h) = of_comparison (λ z. atom_may_be_read (lowering w).fragment (made w x base u) n q (Some z)) ops.Eq (operand_of w (entries_of w) t.number a) (operand_of w (entries_of w) t.number b) _ (same_is ops.Eq (operand_of w (entries_of w) t.number a) (operand_of w (entries_of w) t.number b)) refl refl refl refl
shape_read w c is x base u n q guard t s o level v _ (tests at e f h i) = refl
shape_read w c is x base u n q guard t s o level v _ (reads at y k i h) =
    let f = flag_at AnyRow c w.types w.sites t.number v y k i h in
    ap (λ b. atom_may_be_read (lowering w).fragment (made w x base u) n q (Some (bound_reading w b).atom)) f.bound ∙ read_at w c is x base u n q guard t s o level v y f
shape_read w c is x base u n q guard t s o level v _ (finds at y e k ty i has h j known) = refl

part_numbers : (f : kernel.Fragment) (a : Accumulator) (n : ℕ) (q p : Form) → part_may_be_read f a n q p ≡ all_numbers (λ k. atom_may_be_read f a n q (slice_get f.atoms k)) p
part_numbers f a n q (Is k s) = refl
part_numbers f a n q (Both g h) = rw (part_numbers f a n q g, part_numbers f a n q h) refl
part_numbers f a n q (Either g h) = rw (part_numbers f a n q g, part_numbers f a n q h) refl

guard_read : (w : Setting) (c : Frame) → Checked w c → (x : List ℕ) (base : ℕ) (u : Numbered) → UpdateStands w c u x → (n : ℕ) (o : Option Form) → guard_at w (numbers_of w) u.site.round (suc n) ≡ o → guard_may_be_read (lowering w).fragment (made w x base u) n o ≡ true
guard_read w c is x base u s n None e = refl
guard_read w c is x base u s n (Some q) e =
    let a : Accumulator = made w x base u in
    let test : ℕ → Bool = λ k. atom_may_be_read (lowering w).fragment a n q (slice_get (numbers_of w).atoms k) in
    part_numbers (lowering w).fragment a n q q
    ∙ ap (λ o. Rattle.kernel_lang.specs.Validity.guard_all (all_numbers test) o) (sym e)
    ∙ tests_pass (TestUnder w.sites u.site.round) test w c is u.site.round u.number (suc n) s.round s.round.outer
    (λ t z o same l k. ap (λ i. atom_may_be_read (lowering w).fragment a n q i) k.numbered ∙ shape_read w c is x base u n q e t z o same k.stands.visited l (leaf_shape AnyRow w c t.number l k.stands))

guards_read : (w : Setting) (a : Accumulator) (r : Round) (n : ℕ) (js : List ℕ) → ((k : ℕ) → guard_may_be_read (lowering w).fragment a k (guard_at w (numbers_of w) r (suc k)) ≡ true) → guards_may_be_read (lowering w).fragment a n (guards_from w (numbers_of w) r (suc n) js) ≡ true
guards_read w a r n [] h = refl
guards_read w a r n (j ∷ js) h = rw (h n, guards_read w a r (suc n) js h) refl

-- Flags are read in their places.
pub flags_read : (w : Setting) (c : Frame) → Checked w c → (x : List ℕ) (base : ℕ) (u : Numbered) → UpdateStands w c u x → reads_flags_in_place (lowering w).fragment (made w x base u) ≡ true
unfolding reads_flags_in_place
flags_read w c is x base u s = guards_read w (made w x base u) u.site.round 0 u.site.round.loops (λ k. guard_read w c is x base u s k (guard_at w (numbers_of w) u.site.round (suc k)) refl)

-- The numbers of parts and of conditions of a lowered fragment are small.
use Rattle.std.proofs.Common.{◌≡◌, ℕ, suc, ◌+◌, ◌≤◌, Bool, true, false, not, ◌&&◌, List, [], ◌∷◌, ◌++◌, length, Option, Some, None, refl, sym, ap, ◌∙◌, subst, cond, nat_le, arith, ⊎_elim, le-leb, le_trans, length-append}
use Rattle.std.specs.List.{AllByRecursion, filter, list_all}
use Rattle.std.proofs.lemmas.Bool.{and_parts, leb-true}
use Rattle.std.proofs.lemmas.List.Folds.{list_all-append}
use Rattle.java_ast.specs.Tree.{Statement, Statements}
use Rattle.java_mean.specs.Typing.{Frame}
use Rattle.java_mean.proofs.Puts.{names_equal}
use Rattle.kernel_lang.specs.Plain.{Accumulator}
use Rattle.kernel_lang.specs.Plain as kernel
use Rattle.kernel_lang.specs.Validity.{is_small, pool_is_small, count_conditions, conditions_are_few}
use Rattle.loop_text.specs.Statements.Fragment.{Fragment, accumulators, needed_of, is_live_with, mentioned_behind, declared_in_run, counter}
use Rattle.java_loops.specs.Kernel.Kernel.{lowering, has_small_pool, is_small as is_small_with}
use Rattle.loop_text.specs.Kernel.KernelStarts.{broken_starts_of, broken_flag_start, Numbered, update_of, update_of_flag}
use Rattle.java_loops.specs.Lowering.Lowered.{accumulator_of, outer_accumulators, flag_here, flags_from, needed_in_order, conditions_of, fragment_with}
use Rattle.java_ast.specs.Names.{Names, is_among, updated_in}
use Rattle.java_loops.specs.Lowering.Numbering.{numbers_of, count_flags}
use Rattle.java_loops.specs.Kernel.Setting.{Setting}
use Rattle.loop_text.specs.Sites.Sites.{Site, Round, place_of, place_where, declared_name}
use Rattle.java_loops.proofs.Nested.NestRules.{true_from_not}
use Rattle.java_loops.proofs.Standing.StandingRules.{first_none, none_where}
use Rattle.loop_text.specs.Sites.Sites as sites
use Rattle.java_loops.proofs.Valid.ValidAccumulators.{order_among}
use Rattle.java_loops.proofs.Valid.ValidLoop.{Checked, rules}
use Rattle.java_loops.proofs.Valid.ValidOrder.{AreApart, apart_with, apart_filter, total, AllOnce, total_in_order}
use Rattle.java_loops.proofs.Valid.ValidStarts.{Started, started_by, set_once, filter_among}

-- ---- Needed accumulators

starts_unbroken : (w : Setting) (c : Frame) → Checked w c → broken_starts_of w.sites (place_of w.fragment.loop) (accumulators w.fragment) w.fragment.run ≡ None
starts_unbroken w c is = (first_none (broken_starts_of w.sites (place_of w.fragment.loop) (accumulators w.fragment) w.fragment.run) (sites.first_broken (broken_flag_start w.sites) 0 w.sites) (rules w is.none).unbroken.starts).0

pub needed_is_accumulator : (w : Setting) (x : List ℕ) → is_among (needed_of w.fragment) x ≡ true → is_among (accumulators w.fragment) x ≡ true
needed_is_accumulator w x h = (filter_among (is_live_with w.fragment.visible (mentioned_behind w.fragment)) (accumulators w.fragment) x h).0

-- what starts a needed accumulator
pub needed_started : (w : Setting) (c : Frame) → Checked w c → (x : List ℕ) → is_among (needed_of w.fragment) x ≡ true → Started w.sites x w.fragment.run
needed_started w c is x h = started_by w.sites (place_of w.fragment.loop) (accumulators w.fragment) w.fragment.run (starts_unbroken w c is) x (needed_is_accumulator w x h)

needed_once : (w : Setting) (c : Frame) → Checked w c → AllOnce (needed_of w.fragment) w.fragment.run
needed_once w c is = λ x h. set_once w.sites (place_of w.fragment.loop) (accumulators w.fragment) w.fragment.run (starts_unbroken w c is) x (needed_is_accumulator w x h)

pub needed_apart : (w : Setting) → AreApart (needed_of w.fragment)
needed_apart w = apart_filter (is_live_with w.fragment.visible (mentioned_behind w.fragment)) (accumulators w.fragment) (apart_with [] (filter (Rattle.loop_text.specs.Statements.Fragment.is_outer w.fragment.visible (declared_in_run w.fragment) (counter w.fragment.loop)) (updated_in w.fragment.loop)) tt)

-- a sum over the needed accumulators in their order
pub order_total : (w : Setting) (c : Frame) → Checked w c → (f : List ℕ → ℕ) → total f (needed_in_order w) ≡ total f (needed_of w.fragment)
order_total w c is f = total_in_order f (needed_of w.fragment) w.fragment.run (needed_apart w) (needed_once w c is)

-- ---- Sums over accumulators

abbrev pub own_of : Setting → List ℕ → List Accumulator
own_of w x = accumulator_of w (numbers_of w) (conditions_of w (numbers_of w)) x 0 (update_of w.sites x)

abbrev pub outer_of : Setting → Names → List Accumulator
outer_of w xs = outer_accumulators w (numbers_of w) (conditions_of w (numbers_of w)) xs

abbrev pub flags_of : Setting → List Accumulator
flags_of w = flags_from w (numbers_of w) (conditions_of w (numbers_of w)) 0 w.sites

conditions_append : (ls bs : List Accumulator) → count_conditions (ls ++ bs) ≡ count_conditions ls + count_conditions bs
conditions_append [] bs = omega arith
conditions_append (a ∷ ls) bs = let e = conditions_append ls bs in omega (arith, e)

outer_conditions : (w : Setting) (xs : Names) → count_conditions (outer_of w xs) ≡ total (λ x. count_conditions (own_of w x)) xs
outer_conditions w [] = refl
outer_conditions w (x ∷ xs) = conditions_append (own_of w x) (outer_of w xs) ∙ ap (λ n. count_conditions (own_of w x) + n) (outer_conditions w xs)

pub outer_length : (w : Setting) (xs : Names) → length (outer_of w xs) ≡ total (λ x. length (own_of w x)) xs
outer_length w [] = refl
outer_length w (x ∷ xs) = let e = length-append (own_of w x) (outer_of w xs) in let f = outer_length w xs in e ∙ ap (λ n. length (own_of w x) + n) f

own_at_most : (w : Setting) (x : List ℕ) (o : Option Numbered) → length (accumulator_of w (numbers_of w) (conditions_of w (numbers_of w)) x 0 o) ≤ 1
own_at_most w x None = omega arith
own_at_most w x (Some u) = omega arith

total_at_most : (f : List ℕ → ℕ) (xs : Names) → ((x : List ℕ) → f x ≤ 1) → total f xs ≤ length xs
total_at_most f [] h = omega arith
total_at_most f (x ∷ xs) h = let a = h x in let b = total_at_most f xs h in omega (arith, a, b)

filter_length : (p : List ℕ → Bool) (x : List ℕ) (xs : Names) (b : Bool) → length (filter p xs) ≤ length xs → length (cond b (x ∷ filter p xs) (filter p xs)) ≤ suc (length xs)
filter_length p x xs true h = omega (arith, h)
filter_length p x xs false h = omega (arith, h)

filter_shorter : (p : List ℕ → Bool) (xs : Names) → length (filter p xs) ≤ length xs
filter_shorter p [] = omega arith
filter_shorter p (x ∷ xs) = filter_length p x xs (p x) (filter_shorter p xs)

-- ---- Flags

flag_at_most : (w : Setting) (d : ℕ) (x : List ℕ) (base : ℕ) (o : Option Numbered) → length (accumulator_of w (numbers_of w) (conditions_of w (numbers_of w)) x base o) ≤ 1
flag_at_most w d x base None = omega arith
flag_at_most w d x base (Some u) = omega arith

declares_step : (w : Setting) (d : ℕ) (s : Site) (ss : List Site) (t : Statement) → s.statement ≡ t → length (flags_from w (numbers_of w) (conditions_of w (numbers_of w)) (suc d) ss) ≤ count_flags ss → length (flag_here w (numbers_of w) (conditions_of w (numbers_of w)) d s.round (declared_name t)) + length (flags_from w (numbers_of w) (conditions_of w (numbers_of w)) (suc d) ss) ≤ length (cond (Rattle.loop_text.specs.Kernel.KernelStatements.is_declaration t) (s ∷ filter (λ (z : Site). Rattle.loop_text.specs.Kernel.KernelStatements.is_declaration z.statement) ss) (filter (λ (z : Site). Rattle.loop_text.specs.Kernel.KernelStatements.is_declaration z.statement) ss))
declares_step w d s ss (Rattle.java_ast.specs.Tree.Declare at ty x e) is h = let a = flag_at_most w d x (length s.round.loops) (update_of_flag w.sites d) in omega (arith, a, h)
declares_step w d s ss (Rattle.java_ast.specs.Tree.Assign at x e) is h = omega (arith, h)
declares_step w d s ss (Rattle.java_ast.specs.Tree.Add at x e) is h = omega (arith, h)
declares_step w d s ss (Rattle.java_ast.specs.Tree.Sort at x keys downs) is h = omega (arith, h)
declares_step w d s ss (Rattle.java_ast.specs.Tree.If at c p) is h = omega (arith, h)
declares_step w d s ss (Rattle.java_ast.specs.Tree.IfElse at c p q) is h = omega (arith, h)
declares_step w d s ss (Rattle.java_ast.specs.Tree.ForEach at ty x e b) is h = omega (arith, h)
declares_step w d s ss (Rattle.java_ast.specs.Tree.While at c b) is h = omega (arith, h)
declares_step w d s ss (Rattle.java_ast.specs.Tree.Print at e) is h = omega (arith, h)
declares_step w d s ss (Rattle.java_ast.specs.Tree.Return at e) is h = omega (arith, h)
declares_step w d s ss (Rattle.java_ast.specs.Tree.Break at) is h = omega (arith, h)

flags_at_most : (w : Setting) (d : ℕ) (ss : List Site) → length (flags_from w (numbers_of w) (conditions_of w (numbers_of w)) d ss) ≤ count_flags ss
flags_at_most w d [] = omega arith
flags_at_most w d (s ∷ ss) =
    let e = length-append (flag_here w (numbers_of w) (conditions_of w (numbers_of w)) d s.round (declared_name s.statement)) (flags_from w (numbers_of w) (conditions_of w (numbers_of w)) (suc d) ss) in
    subst (λ n. n ≤ count_flags (s ∷ ss)) (sym e) (declares_step w d s ss s.statement refl (flags_at_most w (suc d) ss))

-- ---- K8

pools_of_one : (w : Setting) (xs : Names) (x : List ℕ) → is_among xs x ≡ true → list_all pool_is_small (outer_of w xs) ≡ true → list_all pool_is_small (own_of w x) ≡ true
pools_of_one w [] x a h = absurd cc
pools_of_one w (y ∷ ys) x a h =
    let two = and_parts (list_all pool_is_small (own_of w y)) (list_all pool_is_small (outer_of w ys)) (sym (list_all-append pool_is_small (own_of w y) (outer_of w ys)) ∙ h) in
    ⊎_elim (λ e. ap (λ z. list_all pool_is_small (own_of w z)) (names_equal x y e) ∙ two.0) (λ e. pools_of_one w ys x e two.1) (Rattle.std.proofs.lemmas.Bool.or_cases (Rattle.std.specs.Str.bytes_eq x y) (is_among ys x) a)

pools_of_all : (w : Setting) (ys xs : Names) → AllByRecursion (λ x. is_among ys x ≡ true) xs → list_all pool_is_small (outer_of w ys) ≡ true → list_all pool_is_small (outer_of w xs) ≡ true
pools_of_all w ys [] a h = refl
pools_of_all w ys (x ∷ xs) a h = list_all-append pool_is_small (own_of w x) (outer_of w xs) ∙ rw (pools_of_one w ys x a.0 h, pools_of_all w ys xs a.1 h) refl

record Small (w : Setting) : Type 0 where
  pools : list_all pool_is_small (outer_of w (needed_of w.fragment) ++ flags_of w) ≡ true
  lists : nat_le (length (lowering w).fragment.lists) 256 ≡ true
  accs : nat_le (length (accumulators w.fragment) + count_flags w.sites) 8 ≡ true
  atoms : nat_le (length (lowering w).fragment.atoms) 24 ≡ true
  entries : nat_le (length (lowering w).fragment.entries) 9 ≡ true
  conditions : nat_le (count_conditions (outer_of w (needed_of w.fragment) ++ flags_of w)) 4096 ≡ true

small_parts : (a b c d e f : Bool) → (a && (b && (c && (d && (e && f))))) ≡ true → (a ≡ true) × (b ≡ true) × (c ≡ true) × (d ≡ true) × (e ≡ true) × (f ≡ true)
small_parts true true true true true true h = (refl, refl, refl, refl, refl, refl)
small_parts false b c d e f h = absurd cc
small_parts true false c d e f h = absurd cc
small_parts true true false d e f h = absurd cc
small_parts true true true false e f h = absurd cc
small_parts true true true true false f h = absurd cc
small_parts true true true true true false h = absurd cc

small : (w : Setting) (c : Frame) → Checked w c → Small w
small w c is =
    let f : kernel.Fragment = fragment_with w (numbers_of w) (needed_of w.fragment) in
    let accs : ℕ = length (accumulators w.fragment) + count_flags w.sites in
    let h = small_parts (list_all has_small_pool f.accs) (nat_le (length f.lists) 256) (nat_le accs 8) (nat_le (length f.atoms) 24) (nat_le (length f.entries) 9) (nat_le (count_conditions f.accs) 4096) (true_from_not (is_small_with accs f) (none_where (not (is_small_with accs f)) (place_of w.fragment.loop) (rules w is.none).counts)) in
    record { pools = h.0; lists = h.1; accs = h.2; atoms = h.3; entries = h.4; conditions = h.5 }

pub accs_length : (w : Setting) (c : Frame) → Checked w c → length (lowering w).fragment.accs ≤ length (accumulators w.fragment) + count_flags w.sites
accs_length w c is =
    let e = length-append (outer_of w (needed_in_order w)) (flags_of w) in
    let f = outer_length w (needed_in_order w) ∙ order_total w c is (λ x. length (own_of w x)) in
    let g = total_at_most (λ x. length (own_of w x)) (needed_of w.fragment) (λ x. own_at_most w x (update_of w.sites x)) in
    let h = filter_shorter (is_live_with w.fragment.visible (mentioned_behind w.fragment)) (accumulators w.fragment) in
    let i = flags_at_most w 0 w.sites in
    let j : length (outer_of w (needed_in_order w)) ≤ length (needed_of w.fragment) = subst (λ n. n ≤ length (needed_of w.fragment)) (sym f) g in
    let k : length (outer_of w (needed_in_order w)) ≤ length (accumulators w.fragment) = le_trans j h in
    subst (λ n. n ≤ length (accumulators w.fragment) + count_flags w.sites) (sym e) (omega (arith, k, i))

same_conditions : (w : Setting) (c : Frame) → Checked w c → count_conditions (lowering w).fragment.accs ≡ count_conditions (outer_of w (needed_of w.fragment) ++ flags_of w)
same_conditions w c is =
    conditions_append (outer_of w (needed_in_order w)) (flags_of w)
    ∙ ap (λ n. n + count_conditions (flags_of w)) (outer_conditions w (needed_in_order w) ∙ order_total w c is (λ x. count_conditions (own_of w x)) ∙ sym (outer_conditions w (needed_of w.fragment)))
    ∙ sym (conditions_append (outer_of w (needed_of w.fragment)) (flags_of w))

-- The numbers of parts are small.
pub size_valid : (w : Setting) (c : Frame) → Checked w c → is_small (lowering w).fragment ≡ true
unfolding is_small
size_valid w c is =
    let s = small w c is in
    let low : length (accumulators w.fragment) + count_flags w.sites ≤ 8 = leb-true (length (accumulators w.fragment) + count_flags w.sites) 8 s.accs in
    let accs : nat_le (length (lowering w).fragment.accs) 8 ≡ true = le-leb (length (lowering w).fragment.accs) 8 (le_trans (accs_length w c is) low) in
    let two = and_parts (list_all pool_is_small (outer_of w (needed_of w.fragment))) (list_all pool_is_small (flags_of w)) (sym (list_all-append pool_is_small (outer_of w (needed_of w.fragment)) (flags_of w)) ∙ s.pools) in
    let pools : list_all pool_is_small (lowering w).fragment.accs ≡ true = list_all-append pool_is_small (outer_of w (needed_in_order w)) (flags_of w) ∙ rw (pools_of_all w (needed_of w.fragment) (needed_in_order w) (order_among (needed_of w.fragment) w.fragment.run) two.0, two.1) refl in
    rw (s.lists, accs, s.atoms, s.entries, pools) refl

-- The numbers of conditions are small.
pub conditions_valid : (w : Setting) (c : Frame) → Checked w c → conditions_are_few (lowering w).fragment ≡ true
unfolding conditions_are_few
conditions_valid w c is = ap (λ n. nat_le n 4096) (same_conditions w c is) ∙ (small w c is).conditions

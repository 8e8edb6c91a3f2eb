-- The counter of a loop that counts, and variables that the loop doesn't set.
use Rattle.std.proofs.Common.{◌≡◌, ℕ, Bool, true, false, not, ◌&&◌, List, [], Option, Some, None, refl, sym, ap, ◌∙◌, subst, bytes_eq, ⊎_elim}
use Rattle.std.specs.List.{filter}
use Rattle.std.proofs.lemmas.Bool.{or_cases, or_left, and_parts, false_from_ne_true}
use Rattle.qbs_base.specs.declared.span.Span.{Span}
use Rattle.java_ast.specs.Tree as tree
use Rattle.java_ast.specs.Tree.{Spelled, Expression, Statement, Statements, Nothing, Then}
use Rattle.java_mean.proofs.Puts.{names_equal, name_same}
use Rattle.loop_text.specs.Kernel.Counting.{Counting, counting}
use Rattle.loop_text.specs.Statements.Fragment.{Fragment, accumulators, declared_in_run, is_outer, counter, is_name, is_live, counter_named}
use Rattle.java_loops.specs.Kernel.KernelConditions.{is_known}
use Rattle.loop_text.specs.Kernel.KernelLists.{source_of}
use Rattle.loop_text.specs.Kernel.KernelLoop.{begins, ends, goes_on, counts_in, starts_at_zero, counts_rightly, is_kernel_loop}
use Rattle.java_ast.specs.Names.{is_among, mentioned_among, updated_in, updated_among}
use Rattle.java_loops.specs.Kernel.Setting.{Setting}
use Rattle.loop_text.specs.Statements.Setting.{is_next_of, is_found}
use Rattle.loop_text.specs.Sites.Sites.{without_first, without_last}
use Rattle.java_loops.proofs.Nested.NestNames.{among_filtered, among_left, among_right}
use Rattle.java_loops.proofs.Nested.NestRules.{Unbroken, loop_parts}
use Rattle.java_loops.proofs.Nested.NestSight.{is_set_outside}
use Rattle.java_mean.proofs.Sets.{among_set}
use Rattle.java_loops.proofs.Nested.NestStarts.{Starts, accumulator_starts, counter_starts, source_not_started, known_not_started}

-- ---- Loops

-- a for-each, or a loop that counts from 0
pub data Kind (f : Fragment) : Statement → Type 0 where
  each : (at : Span) (ty : Spelled) (x : List ℕ) (e : Expression) (b : Statements) → Kind f (tree.ForEach at ty x e b)
  counts : (at : Span) (c : Expression) (b : Statements) (k : Counting) → counting c ≡ Some k → counts_in k b ≡ true → starts_at_zero k.counter f.run ≡ true → Kind f (tree.While at c b)

counts_kind : (f : Fragment) (at : Span) (c : Expression) (b : Statements) (o : Option Counting) → counting c ≡ o → counts_rightly f o b ≡ true → Kind f (tree.While at c b)
counts_kind f at c b None e h = absurd cc
counts_kind f at c b (Some k) e h =
    let two = and_parts (counts_in k b) (starts_at_zero k.counter f.run && not (is_live f k.counter)) h in
    counts at c b k e two.0 (and_parts (starts_at_zero k.counter f.run) (not (is_live f k.counter)) two.1).0

pub kind_of : (f : Fragment) (s : Statement) → is_kernel_loop f s ≡ true → Kind f s
kind_of f (tree.Declare at ty x e) h = absurd cc
kind_of f (tree.Assign at x e) h = absurd cc
kind_of f (tree.Add at x e) h = absurd cc
kind_of f (tree.Sort at x keys downs) h = absurd cc
kind_of f (tree.If at c p) h = absurd cc
kind_of f (tree.IfElse at c p q) h = absurd cc
kind_of f (tree.ForEach at ty x e b) h = each at ty x e b
kind_of f (tree.While at c b) h = counts_kind f at c b (counting c) refl h
kind_of f (tree.Print at e) h = absurd cc
kind_of f (tree.Return at e) h = absurd cc
kind_of f (tree.Break at) h = absurd cc

pub loop_kind : (w : Setting) → Unbroken w → Kind w.fragment w.fragment.loop
loop_kind w u = kind_of w.fragment w.fragment.loop (loop_parts w u).1

-- the name of the counter
pub counted_name : (c : Expression) (k : Counting) (x : List ℕ) → counting c ≡ Some k → is_name (counter_named (counting c)) x ≡ true → x ≡ k.counter
counted_name c k x e h = names_equal x k.counter (ap (λ o. is_name (counter_named o) x) (sym e) ∙ h)

counter_started : (f : Fragment) (s : Statement) → Kind f s → (x : List ℕ) → is_name (counter s) x ≡ true → Starts x f.run
counter_started f _ (each at ty y e b) x h = absurd cc
counter_started f _ (counts at c b k e i z) x h = counter_starts x f.run (subst (λ y. starts_at_zero y f.run ≡ true) (sym (counted_name c k x e h)) z)

-- what the loop sets is started by the run
outside_starts : (w : Setting) → Unbroken w → (x : List ℕ) → is_set_outside w x ≡ true → Starts x w.fragment.run
outside_starts w u x h = ⊎_elim (λ a. accumulator_starts w u x a) (λ c. counter_started w.fragment w.fragment.loop (loop_kind w u) x c) (or_cases (is_among (accumulators w.fragment) x) (is_name (counter w.fragment.loop) x) h)

source_started : (x : List ℕ) (at : Span) (run : Statements) → is_found (source_of run (tree.Var at x)) ≡ true → Starts x run → ⊥
source_started x at run h s = source_not_started x run h s

-- a list that the run fetches isn't set by the loop
pub source_outside : (w : Setting) → Unbroken w → (at : Span) (x : List ℕ) → is_found (source_of w.fragment.run (tree.Var at x)) ≡ true → is_set_outside w x ≡ false
source_outside w u at x h = false_from_ne_true (is_set_outside w x) (λ e. source_started x at w.fragment.run h (outside_starts w u x e))

-- a list that the run asks for isn't set by the loop
pub known_outside : (w : Setting) → Unbroken w → (n : ℕ) (x : List ℕ) → is_known w n x ≡ true → is_set_outside w x ≡ false
known_outside w u n x h = false_from_ne_true (is_set_outside w x) (λ e. known_not_started w n x h (outside_starts w u x e))

-- ---- What isn't updated isn't set

same_way : (x y : List ℕ) → bytes_eq x y ≡ true → bytes_eq y x ≡ true
same_way x y e = subst (λ z. bytes_eq z x ≡ true) (names_equal x y e) (name_same x)

goes_updated : (k : Counting) (s : Statement) → goes_on k s ≡ true → is_among (updated_in s) k.counter ≡ true
goes_updated k (tree.Declare at ty x e) h = absurd cc
goes_updated k (tree.Assign at x e) h = or_left (bytes_eq k.counter x) false (same_way x k.counter (and_parts (bytes_eq x k.counter) (is_next_of k.counter e) h).0)
goes_updated k (tree.Add at x e) h = absurd cc
goes_updated k (tree.Sort at x keys downs) h = absurd cc
goes_updated k (tree.If at c p) h = absurd cc
goes_updated k (tree.IfElse at c p q) h = absurd cc
goes_updated k (tree.ForEach at ty x e b) h = absurd cc
goes_updated k (tree.While at c b) h = absurd cc
goes_updated k (tree.Print at e) h = absurd cc
goes_updated k (tree.Return at e) h = absurd cc
goes_updated k (tree.Break at) h = absurd cc

ends_updated : (k : Counting) (p : Statements) → ends k p ≡ true → is_among (updated_among p) k.counter ≡ true
ends_updated k Nothing h = absurd cc
ends_updated k (Then s Nothing) h = among_left (updated_in s) [] k.counter (goes_updated k s h)
ends_updated k (Then s (Then t ss)) h = among_right (updated_in s) (updated_among (Then t ss)) k.counter (ends_updated k (Then t ss) h)

pub behind_first_updated : (p : Statements) (x : List ℕ) → is_among (updated_among (without_first p)) x ≡ true → is_among (updated_among p) x ≡ true
behind_first_updated Nothing x h = h
behind_first_updated (Then s ss) x h = among_right (updated_in s) (updated_among ss) x h

counter_updated : (f : Fragment) (s : Statement) → Kind f s → (x : List ℕ) → is_name (counter s) x ≡ true → is_among (updated_in s) x ≡ true
counter_updated f _ (each at ty y e b) x h = absurd cc
counter_updated f _ (counts at c b k e i z) x h =
    let two = and_parts (begins k b) (ends k (without_first b) && not (is_among (mentioned_among (without_last (without_first b))) k.counter)) i in
    let last = (and_parts (ends k (without_first b)) (not (is_among (mentioned_among (without_last (without_first b))) k.counter)) two.1).0 in
    behind_first_updated b x (subst (λ y. is_among (updated_among (without_first b)) y ≡ true) (sym (counted_name c k x e h)) (ends_updated k (without_first b) last))

accumulator_updated : (f : Fragment) (x : List ℕ) → is_among (accumulators f) x ≡ true → is_among (updated_in f.loop) x ≡ true
accumulator_updated f x h =
    let outer : List ℕ → Bool = is_outer f.visible (declared_in_run f) (counter f.loop) in
    (among_filtered outer (updated_in f.loop) x (sym (among_set (filter outer (updated_in f.loop)) x) ∙ h)).0

outside_updated : (w : Setting) → Unbroken w → (x : List ℕ) → is_set_outside w x ≡ true → is_among (updated_in w.fragment.loop) x ≡ true
outside_updated w u x h = ⊎_elim (λ a. accumulator_updated w.fragment x a) (λ c. counter_updated w.fragment w.fragment.loop (loop_kind w u) x c) (or_cases (is_among (accumulators w.fragment) x) (is_name (counter w.fragment.loop) x) h)

-- what the loop doesn't update isn't set by it
pub steady_outside : (w : Setting) → Unbroken w → (x : List ℕ) → is_among (updated_in w.fragment.loop) x ≡ false → is_set_outside w x ≡ false
steady_outside w u x h = false_from_ne_true (is_set_outside w x) (λ e. let k = outside_updated w u x e in absurd cc)

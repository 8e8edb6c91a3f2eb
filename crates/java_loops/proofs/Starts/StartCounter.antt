-- The counter of a loop that counts: it is 0 at the loop, and nothing needs it behind the loop.
use Rattle.std.proofs.Common.{◌≡◌, ℕ, pos, Bool, true, false, not, ◌&&◌, ◌||◌, List, Option, Some, None, Ok, refl, sym, ap, ◌∙◌, cond}
use Rattle.std.proofs.lemmas.Bool.{and_parts, or_parts}
use Rattle.qbs_base.specs.declared.scalar.Scalar.TheVariants as scalars
use Rattle.qbs_base.specs.declared.scalar.Value.TheVariants.{One}
use Rattle.qbs_base.specs.declared.span.Span.{Span}
use Rattle.qbs_base.specs.Values.{Schema}
use Rattle.java_ast.specs.Tree as tree
use Rattle.java_ast.specs.Tree.{Expression, Statement, Statements, Nothing, Then}
use Rattle.java_mean.specs.Refines.{followed_by}
use Rattle.java_mean.specs.Statement.{State, GoesOn, meanings}
use Rattle.java_mean.specs.Types.{Types, IsTyped}
use Rattle.java_mean.specs.World.{World}
use Rattle.java_loops.specs.Walks.Runs.{constant}
use Rattle.loop_text.specs.Statements.Fragment.{Fragment, are_simple, is_live}
use Rattle.loop_text.specs.Kernel.Counting.{Counting, counting}
use Rattle.loop_text.specs.Kernel.KernelLoop.{counts_in, is_zero_given, sets_zero, starts_at_zero, counts_rightly, is_kernel_loop, has_inner_while}
use Rattle.java_loops.specs.Kernel.KernelLoop.{broken_loop}
use Rattle.java_loops.specs.Kernel.Setting.{Setting}
use Rattle.loop_text.specs.Statements.Setting.{touches, first_touching, behind_touching, touched_again, is_found, given_by}
use Rattle.loop_text.specs.Sites.Sites.{place_of}
use Rattle.java_loops.proofs.Nested.NestRules.{true_from_not, false_from_not}
use Rattle.java_loops.proofs.Placing.PlaceRuns.{untouched_unset}
use Rattle.java_loops.proofs.Standing.StandingRules.{none_where}
use Rattle.java_loops.proofs.Starts.Start.{HoldsStart, value_held, number_literal, number_is}

-- ---- What the rule says

-- The loop counts: its body begins and ends so, one statement of the run gives the counter 0 and no other mentions it,
-- and nothing needs it behind the loop.
pub record IsCounted (f : Fragment) (c : Expression) (b : Statements) : Type 0 where
  pub count : Counting
  pub is : counting c ≡ Some count
  pub body : counts_in count b ≡ true
  pub zero : starts_at_zero count.counter f.run ≡ true
  pub dead : is_live f count.counter ≡ false

counted_so : (f : Fragment) (c : Expression) (b : Statements) (o : Option Counting) → counting c ≡ o → counts_rightly f o b ≡ true → IsCounted f c b
counted_so f c b None e h = absurd cc
counted_so f c b (Some k) e h =
    let two = and_parts (counts_in k b) (starts_at_zero k.counter f.run && not (is_live f k.counter)) h in
    let more = and_parts (starts_at_zero k.counter f.run) (not (is_live f k.counter)) two.1 in
    record { count = k; is = e; body = two.0; zero = more.0; dead = false_from_not (is_live f k.counter) more.1 }

-- the loop of a fragment that doesn't break the rule of loops counts, where it is no for-each
pub loop_counts : (w : Setting) → broken_loop w ≡ None → (at : Span) (c : Expression) (b : Statements) → w.fragment.loop ≡ tree.While at c b → IsCounted w.fragment c b
loop_counts w h at c b is =
    let two = or_parts (has_inner_while w.sites) (not (is_kernel_loop w.fragment w.fragment.loop)) (none_where (has_inner_while w.sites || not (is_kernel_loop w.fragment w.fragment.loop)) (place_of w.fragment.loop) h) in
    counted_so w.fragment c b (counting c) refl (ap (is_kernel_loop w.fragment) (sym is) ∙ true_from_not (is_kernel_loop w.fragment w.fragment.loop) two.1)

-- no loop inside counts
pub inner_counts_not : (w : Setting) → broken_loop w ≡ None → has_inner_while w.sites ≡ false
inner_counts_not w h = (or_parts (has_inner_while w.sites) (not (is_kernel_loop w.fragment w.fragment.loop)) (none_where (has_inner_while w.sites || not (is_kernel_loop w.fragment w.fragment.loop)) (place_of w.fragment.loop) h)).0

-- ---- The counter at the loop

record TouchedOnce (x : List ℕ) (run : Statements) (s : Statement) : Type 0 where
  before : Statements
  is : run ≡ followed_by before (Then s (behind_touching x run))

touched_step : (x : List ℕ) (a : Statement) (p : Statements) (s : Statement) (t : Bool) → touches x a ≡ t → cond t (Some a) (first_touching x p) ≡ Some s → (first_touching x p ≡ Some s → TouchedOnce x p s) → TouchedOnce x (Then a p) s
touched_step x a p s true e h ih = record { before = Nothing; is = ap (λ z. Then z p) (let l : Some a ≡ Some s = h in cc) ∙ ap (λ b. Then s (cond b p (behind_touching x p))) (sym e) }
touched_step x a p s false e h ih =
    let k : TouchedOnce x p s = ih h in
    record { before = Then a k.before; is = ap (Then a) (k.is ∙ ap (λ b. followed_by k.before (Then s (cond b p (behind_touching x p)))) (sym e)) }

touched_once : (x : List ℕ) (p : Statements) (s : Statement) → first_touching x p ≡ Some s → TouchedOnce x p s
touched_once x Nothing s h = absurd cc
touched_once x (Then a p) s h = touched_step x a p s (touches x a) refl h (touched_once x p s)

not_found : {A : Type 0} (o : Option A) → not (is_found o) ≡ true → o ≡ None
not_found None e = refl
not_found (Some x) e = absurd cc

zero_given : (world : World) (schema : Schema) (g : Types) (x : List ℕ) (run : Statements) (s t : State) (a : Statement) (o : Option Expression) → first_touching x run ≡ Some a → given_by x a ≡ o → is_zero_given o ≡ true → first_touching x (behind_touching x run) ≡ None → are_simple run ≡ true → IsTyped schema g t.store → meanings run world s ≡ Ok (GoesOn t) → HoldsStart schema g x (One (scalars.Long (pos 0))) t
zero_given world schema g x run s t a None f q z n i typed m = absurd cc
zero_given world schema g x run s t a (Some e) f q z n i typed m =
    let k : TouchedOnce x run a = touched_once x run a f in
    let l = number_literal 0 e z in
    let v : constant e ≡ Some (One (scalars.Long (pos 0))) = ap constant l.is ∙ ap (λ y. Some (One y)) (number_is 0 l.value l.passes) in
    value_held world schema g x k.before a (behind_touching x run) run e (One (scalars.Long (pos 0))) s t k.is q v (untouched_unset x (behind_touching x run) n) i typed m

zero_set : (world : World) (schema : Schema) (g : Types) (x : List ℕ) (run : Statements) (s t : State) (o : Option Statement) → first_touching x run ≡ o → sets_zero x o ≡ true → first_touching x (behind_touching x run) ≡ None → are_simple run ≡ true → IsTyped schema g t.store → meanings run world s ≡ Ok (GoesOn t) → HoldsStart schema g x (One (scalars.Long (pos 0))) t
zero_set world schema g x run s t None f z n i typed m = absurd cc
zero_set world schema g x run s t (Some a) f z n i typed m = zero_given world schema g x run s t a (given_by x a) f refl z n i typed m

-- Where the run passes, the counter is 0 at the loop.
pub counter_is_zero : (f : Fragment) (c : Expression) (b : Statements) (k : IsCounted f c b) (world : World) (schema : Schema) (g : Types) (s t : State) → are_simple f.run ≡ true → IsTyped schema g t.store → meanings f.run world s ≡ Ok (GoesOn t) → HoldsStart schema g k.count.counter (One (scalars.Long (pos 0))) t
counter_is_zero f c b k world schema g s t i typed m =
    let x : List ℕ = k.count.counter in
    let two = and_parts (sets_zero x (first_touching x f.run)) (not (touched_again x f.run)) k.zero in
    zero_set world schema g x f.run s t (first_touching x f.run) refl two.0 (not_found (first_touching x (behind_touching x f.run)) two.1) i typed m

-- No kept statement of a run mentions an accumulator or a counter: the one statement of the run that mentions it sets it,
-- and is dropped.
use Rattle.std.proofs.Common.{◌≡◌, ℕ, Bool, true, false, List, Some, None, refl, sym, ap, ◌∙◌, subst, cond, bytes_eq, ⊎_elim}
use Rattle.std.proofs.lemmas.Bool.{or_right, or_cases, false_from_ne_true}
use Rattle.java_ast.specs.Tree as tree
use Rattle.java_ast.specs.Tree.{Expression, Statement, Statements, Then}
use Rattle.java_mean.proofs.Puts.{names_equal, name_same}
use Rattle.java_loops.specs.Walks.Needed.{needed, KeptAlone}
use Rattle.java_loops.specs.Walks.Runs.{Gives, declares, assigns, KeptRead}
use Rattle.java_loops.proofs.Walks.EnoughWalks.{needed_closed}
use Rattle.java_loops.proofs.Walks.Walks.{closed_reads}
use Rattle.loop_text.specs.Statements.Fragment.{Fragment, accumulators, counter, is_name, is_live, set_by, StandsIn, first, after, drops, live_or}
use Rattle.loop_text.specs.Kernel.KernelLoop.{starts_at_zero}
use Rattle.java_loops.specs.Kernel.KernelLoop.{broken_loop}
use Rattle.java_ast.specs.Names.{Names, is_among, mentioned_in}
use Rattle.java_loops.specs.Kernel.Setting.{Setting}
use Rattle.loop_text.specs.Statements.Setting.{touches, first_touching, is_found, given_by}
use Rattle.java_loops.specs.Meant.KeptNumbers.{kept_set}
use Rattle.java_loops.proofs.Nested.NestCounter.{Kind, each, counts, loop_kind, counted_name}
use Rattle.java_loops.proofs.Nested.NestRules.{Unbroken}
use Rattle.java_loops.proofs.Nested.NestStarts.{Starts, here, later, accumulator_starts, counter_starts}
use Rattle.java_loops.proofs.Placing.PlaceRuns.{gives}
use Rattle.java_loops.proofs.Starts.StartCounter.{IsCounted, loop_counts}

-- ---- The one statement that mentions a variable

gives_sets : (s : Statement) (x : List ℕ) (e : Expression) → Gives s x e → bytes_eq (set_by s) x ≡ true
gives_sets _ _ _ (declares at ty x e) = name_same x
gives_sets _ _ _ (assigns at x e) = name_same x

pub given_sets : (x : List ℕ) (s : Statement) (e : Expression) → given_by x s ≡ Some e → bytes_eq (set_by s) x ≡ true
given_sets x s e h = gives_sets s x e (gives x s e h)

untouched_step : (x : List ℕ) (s : Statement) (ss : Statements) (b : Bool) → touches x s ≡ b → is_found (cond b (Some s) (first_touching x ss)) ≡ false → (touches x s ≡ false) × (is_found (first_touching x ss) ≡ false)
untouched_step x s ss true e h = absurd cc
untouched_step x s ss false e h = (e, h)

-- where no statement mentions a variable the first one doesn't, and no later one does
pub untouched_parts : (x : List ℕ) (s : Statement) (ss : Statements) → is_found (first_touching x (Then s ss)) ≡ false → (touches x s ≡ false) × (is_found (first_touching x ss) ≡ false)
untouched_parts x s ss h = untouched_step x s ss (touches x s) refl h

untouched_in : (x : List ℕ) (s : Statement) (p : Statements) → StandsIn s p → is_found (first_touching x p) ≡ false → touches x s ≡ false
untouched_in x _ _ (first s ss) h = (untouched_parts x s ss h).0
untouched_in x _ _ (after s a ss i) h = untouched_in x s ss i (untouched_parts x a ss h).1

not_touching : (x : List ℕ) (s : Statement) → touches x s ≡ false → is_among (mentioned_in s) x ≡ true → bytes_eq (set_by s) x ≡ true
not_touching x s n h = let t : touches x s ≡ true = or_right (bytes_eq (set_by s) x) (is_among (mentioned_in s) x) h in absurd cc

-- a statement that mentions a variable which the run starts sets it
mention_sets : (x : List ℕ) (s : Statement) (p : Statements) → StandsIn s p → Starts x p → is_among (mentioned_in s) x ≡ true → bytes_eq (set_by s) x ≡ true
mention_sets x _ _ (first s ss) (here _ _ e g p f) h = given_sets x s e g
mention_sets x _ _ (first s ss) (later _ _ t k) h = not_touching x s t h
mention_sets x _ _ (after s a ss i) (here _ _ e g p f) h = not_touching x s (untouched_in x s ss i f) h
mention_sets x _ _ (after s a ss i) (later _ _ t k) h = mention_sets x s ss i k h

-- ---- Dropped variables

counter_started : (f : Fragment) (s : Statement) → Kind f s → (x : List ℕ) → is_name (counter s) x ≡ true → Starts x f.run
counter_started f _ (each at ty y e b) x h = absurd cc
counter_started f _ (counts at c b k e i z) x h = counter_starts x f.run (subst (λ y. starts_at_zero y f.run ≡ true) (sym (counted_name c k x e h)) z)

-- the run starts what is dropped
pub dropped_started : (w : Setting) → Unbroken w → (x : List ℕ) → drops w.fragment x ≡ true → Starts x w.fragment.run
dropped_started w u x h =
    ⊎_elim (λ a. accumulator_starts w u x a) (λ c. counter_started w.fragment w.fragment.loop (loop_kind w u) x c)
    (or_cases (is_among (accumulators w.fragment) x) (is_name (counter w.fragment.loop) x) h)

-- No kept statement mentions a dropped variable.
dropped_alone : (w : Setting) → Unbroken w → KeptAlone (drops w.fragment) w.fragment.run
dropped_alone w u s x i d m =
    false_from_ne_true (drops w.fragment x) (λ e.
    let sets : bytes_eq (set_by s) x ≡ true = mention_sets x s w.fragment.run i (dropped_started w u x e) m in
    let same : drops w.fragment (set_by s) ≡ drops w.fragment x = ap (drops w.fragment) (names_equal (set_by s) x sets) in
    absurd cc)

-- Kept statements read kept variables alone.
pub kept_read : (w : Setting) → Unbroken w → (further : Names) → KeptRead (kept_set w.fragment further) w.fragment.run
kept_read w u further =
    closed_reads (live_or w.fragment further) (drops w.fragment) w.fragment.run (needed (live_or w.fragment further) (drops w.fragment) w.fragment.run)
    (needed_closed (live_or w.fragment further) (drops w.fragment) w.fragment.run) (dropped_alone w u)

-- ---- The counter isn't live

counter_step : (w : Setting) → broken_loop w ≡ None → (s : Statement) → w.fragment.loop ≡ s → (x : List ℕ) → is_name (counter s) x ≡ true → is_live w.fragment x ≡ false
counter_step w h (tree.While at c b) is x n =
    let k : IsCounted w.fragment c b = loop_counts w h at c b is in
    ap (is_live w.fragment) (counted_name c k.count x k.is n) ∙ k.dead
counter_step w h (tree.Declare at ty y e) is x n = absurd cc
counter_step w h (tree.Assign at y e) is x n = absurd cc
counter_step w h (tree.Add at y e) is x n = absurd cc
counter_step w h (tree.Sort at y keys downs) is x n = absurd cc
counter_step w h (tree.If at c p) is x n = absurd cc
counter_step w h (tree.IfElse at c p q) is x n = absurd cc
counter_step w h (tree.ForEach at ty y e b) is x n = absurd cc
counter_step w h (tree.Print at e) is x n = absurd cc
counter_step w h (tree.Return at e) is x n = absurd cc
counter_step w h (tree.Break at) is x n = absurd cc

counter_dead : (w : Setting) → broken_loop w ≡ None → (x : List ℕ) → is_name (counter w.fragment.loop) x ≡ true → is_live w.fragment x ≡ false
counter_dead w h x n = counter_step w h w.fragment.loop refl x n

-- a live variable is no counter
pub live_uncounted : (w : Setting) → broken_loop w ≡ None → (x : List ℕ) → is_live w.fragment x ≡ true → is_name (counter w.fragment.loop) x ≡ false
live_uncounted w h x l = false_from_ne_true (is_name (counter w.fragment.loop) x) (λ n. let dead : is_live w.fragment x ≡ false = counter_dead w h x n in absurd cc)

-- A walk through a run adds needed variables alone, and a set to which it adds nothing is closed.
use Rattle.std.proofs.Common.{◌≡◌, ℕ, Bool, true, false, not, ◌&&◌, ◌||◌, List, refl, ap}
use Rattle.java_ast.specs.Tree as tree
use Rattle.java_ast.specs.Tree.{Expression, Expressions, NoMore, And, Statement, Statements, Nothing, Then}
use Rattle.java_loops.specs.Walks.Reads.{Set}
use Rattle.loop_text.specs.Statements.Fragment.{set_by, StandsIn, first, after, IsNeeded, based, mentioned, IsClosed}
use Rattle.java_loops.specs.Walks.Runs.{StepReads, KeptRead}
use Rattle.java_loops.specs.Walks.Needed.{mentions, AreNeeded, keeping, joined, walked, KeptAlone}
use Rattle.java_ast.specs.Names.{names_in}
use Rattle.java_loops.proofs.Walks.Named.{among_more, reads_named}
use Rattle.java_loops.proofs.Walks.Truth.{and_true, not_true, or_left, or_right, and_both}

-- ---- The least set

pub needed_in_closed : (base dropped : Set) (run : Statements) (r : Set) (x : List ℕ) → IsClosed base dropped run r → IsNeeded base dropped run x → r x ≡ true
needed_in_closed base dropped run r _ c (based x h) = c.has_base x h
needed_in_closed base dropped run r _ c (mentioned a x i d n h) = c.has_mentioned a x i d (needed_in_closed base dropped run r (set_by a) c n) h

-- ---- What a walk adds

either_needed : (base dropped : Set) (run : Statements) (r : Set) (a : Statement) (x : List ℕ) (b c : Bool) → r x ≡ b → keeping r dropped (set_by a) ≡ c → StandsIn a run → AreNeeded base dropped run r → (b || (c && mentions a x)) ≡ true → IsNeeded base dropped run x
either_needed base dropped run r a x true c e k i n h = n.by x e
either_needed base dropped run r a x false true e k i n h =
    let t = and_true (r (set_by a)) (not (dropped (set_by a))) k in
    mentioned a x i (not_true (dropped (set_by a)) t.1) (n.by (set_by a) t.0) h
either_needed base dropped run r a x false false e k i n h = absurd cc

pub walked_needed : (base dropped : Set) (run p : Statements) (r : Set) → ((a : Statement) → StandsIn a p → StandsIn a run) → AreNeeded base dropped run r → AreNeeded base dropped run (walked dropped p r)
walked_needed base dropped run Nothing r i n = n
walked_needed base dropped run (Then a p) r i n =
    walked_needed base dropped run p (joined (keeping r dropped (set_by a)) (mentions a) r) (λ b s. i b (after b a p s)) (record { by = λ x h. either_needed base dropped run r a x (r x) (keeping r dropped (set_by a)) refl refl (i a (first a p)) n h })

pub walk_needed : (base dropped : Set) (run : Statements) (r : Set) → AreNeeded base dropped run r → AreNeeded base dropped run (walked dropped run r)
walk_needed base dropped run r n = walked_needed base dropped run run r (λ a s. s) n

pub walked_covers : (dropped : Set) (p : Statements) (r : Set) (x : List ℕ) → r x ≡ true → walked dropped p r x ≡ true
walked_covers dropped Nothing r x h = h
walked_covers dropped (Then a p) r x h = walked_covers dropped p (joined (keeping r dropped (set_by a)) (mentions a) r) x (or_left (r x) (keeping r dropped (set_by a) && mentions a x) h)

pub walked_adds : (dropped : Set) (a : Statement) (p : Statements) → StandsIn a p → (r : Set) (x : List ℕ) → dropped (set_by a) ≡ false → r (set_by a) ≡ true → mentions a x ≡ true → walked dropped p r x ≡ true
walked_adds dropped _ _ (first a p) r x d k h =
    walked_covers dropped p (joined (keeping r dropped (set_by a)) (mentions a) r) x (or_right (r x) (keeping r dropped (set_by a) && mentions a x) (and_both (keeping r dropped (set_by a)) (mentions a x) (and_both (r (set_by a)) (not (dropped (set_by a))) k (ap not d)) h))
walked_adds dropped _ _ (after a b p i) r x d k h =
    walked_adds dropped a p i (joined (keeping r dropped (set_by b)) (mentions b) r) x d (or_left (r (set_by a)) (keeping r dropped (set_by b) && mentions b (set_by a)) k) h

-- a set that a walk leaves as it is
pub walked_closed : (base dropped : Set) (run : Statements) (r : Set) → ((x : List ℕ) → base x ≡ true → r x ≡ true) → ((x : List ℕ) → walked dropped run r x ≡ true → r x ≡ true) → IsClosed base dropped run r
walked_closed base dropped run r b w = record { has_base = b; has_mentioned = λ a x i d k h. w x (walked_adds dropped a run i r x d k h) }

-- ---- What is kept reads what is in the set

step_reads : (a : Statement) (f : Set) → ((x : List ℕ) → mentions a x ≡ true → f x ≡ true) → StepReads f a
step_reads (tree.Declare at ty y e) f h = reads_named e f h
step_reads (tree.Assign at y e) f h = reads_named e f (λ x i. h x (among_more y x (names_in e) i))
step_reads (tree.Sort at y keys down) f h = tt
step_reads (tree.Add at x e) f h = tt
step_reads (tree.If at c p) f h = tt
step_reads (tree.IfElse at c p q) f h = tt
step_reads (tree.ForEach at ty x e b) f h = tt
step_reads (tree.While at c b) f h = tt
step_reads (tree.Print at e) f h = tt
step_reads (tree.Return at e) f h = tt
step_reads (tree.Break at) f h = tt

kept_in : (base dropped : Set) (run : Statements) (r : Set) → IsClosed base dropped run r → KeptAlone dropped run → (a : Statement) → StandsIn a run → keeping r dropped (set_by a) ≡ true → (x : List ℕ) → mentions a x ≡ true → keeping r dropped x ≡ true
kept_in base dropped run r c alone a i k x h =
    let t = and_true (r (set_by a)) (not (dropped (set_by a))) k in
    let d = not_true (dropped (set_by a)) t.1 in
    and_both (r x) (not (dropped x)) (c.has_mentioned a x i d t.0 h) (ap not (alone a x i d h))

all_kept_read : (base dropped : Set) (run : Statements) (r : Set) → IsClosed base dropped run r → KeptAlone dropped run → (p : Statements) → ((a : Statement) → StandsIn a p → StandsIn a run) → KeptRead (keeping r dropped) p
all_kept_read base dropped run r c alone Nothing i = tt
all_kept_read base dropped run r c alone (Then a p) i = (λ k. step_reads a (keeping r dropped) (kept_in base dropped run r c alone a (i a (first a p)) k), all_kept_read base dropped run r c alone p (λ b s. i b (after b a p s)))

pub closed_reads : (base dropped : Set) (run : Statements) (r : Set) → IsClosed base dropped run r → KeptAlone dropped run → KeptRead (keeping r dropped) run
closed_reads base dropped run r c alone = all_kept_read base dropped run r c alone run (λ a s. s)

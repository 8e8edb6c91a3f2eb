-- As many walks as a run has statements, and one, come to the needed variables.
use Rattle.std.proofs.Common.{◌≡◌, ℕ, zero, suc, ◌+◌, ◌≤◌, ◌<◌, Bool, true, false, not, ◌&&◌, ◌||◌, List, refl, ap, arith, ◌⊎◌, inl, inr}
use Rattle.java_ast.specs.Tree.{Statement, Statements, Nothing, Then}
use Rattle.java_loops.specs.Walks.Reads.{Set}
use Rattle.loop_text.specs.Statements.Fragment.{set_by, StandsIn, first, after, IsNeeded, based, IsClosed}
use Rattle.java_loops.specs.Walks.Needed.{mentions, AreNeeded, keeping, joined, walked, size, one_where, how_many_kept, walks, needed}
use Rattle.java_loops.proofs.Walks.Walks.{needed_in_closed, walk_needed, walked_covers, walked_adds}
use Rattle.java_loops.proofs.Walks.Truth.{and_true, not_true, and_both}

-- each name of the first is in the second
abbrev Within : Set → Set → Type 0
Within r q = (x : List ℕ) → r x ≡ true → q x ≡ true

keeping_within : (dropped r q : Set) (x : List ℕ) → Within r q → keeping r dropped x ≡ true → keeping q dropped x ≡ true
keeping_within dropped r q x h e =
    let k = and_true (r x) (not (dropped x)) e in
    and_both (q x) (not (dropped x)) (h x k.0) k.1

-- ---- Counts

at_most : (b : Bool) (n m : ℕ) → n ≤ m → one_where b n ≤ suc m
at_most true n m h = omega (arith, h)
at_most false n m h = omega (arith, h)

kept_at_most : (dropped r : Set) (p : Statements) → how_many_kept dropped r p ≤ size p
kept_at_most dropped r Nothing = omega arith
kept_at_most dropped r (Then a p) = at_most (keeping r dropped (set_by a)) (how_many_kept dropped r p) (size p) (kept_at_most dropped r p)

more_where : (b c : Bool) (n m : ℕ) → (b ≡ true → c ≡ true) → n ≤ m → one_where b n ≤ one_where c m
more_where true true n m i h = omega (arith, h)
more_where true false n m i h = let e : false ≡ true = i refl in absurd cc
more_where false true n m i h = omega (arith, h)
more_where false false n m i h = h

kept_more : (dropped r q : Set) (p : Statements) → Within r q → how_many_kept dropped r p ≤ how_many_kept dropped q p
kept_more dropped r q Nothing h = omega arith
kept_more dropped r q (Then a p) h = more_where (keeping r dropped (set_by a)) (keeping q dropped (set_by a)) (how_many_kept dropped r p) (how_many_kept dropped q p) (keeping_within dropped r q (set_by a) h) (kept_more dropped r q p h)

same_where : (b c : Bool) (n m : ℕ) → (b ≡ true → c ≡ true) → n ≤ m → one_where b n ≡ one_where c m → (c ≡ true → b ≡ true) × (n ≡ m)
same_where true true n m i h e = (λ k. refl, omega (arith, e))
same_where true false n m i h e = let k : false ≡ true = i refl in absurd cc
same_where false true n m i h e = absurd (omega (arith, h, e))
same_where false false n m i h e = (λ k. k, e)

-- where no statement more is kept the same ones are
same_kept : (dropped r q : Set) (p : Statements) → Within r q → how_many_kept dropped r p ≡ how_many_kept dropped q p → (a : Statement) → StandsIn a p → keeping q dropped (set_by a) ≡ true → keeping r dropped (set_by a) ≡ true
same_kept dropped r q _ h e _ (first a p) k = (same_where (keeping r dropped (set_by a)) (keeping q dropped (set_by a)) (how_many_kept dropped r p) (how_many_kept dropped q p) (keeping_within dropped r q (set_by a) h) (kept_more dropped r q p h) e).0 k
same_kept dropped r q _ h e _ (after a b p i) k = same_kept dropped r q p h (same_where (keeping r dropped (set_by b)) (keeping q dropped (set_by b)) (how_many_kept dropped r p) (how_many_kept dropped q p) (keeping_within dropped r q (set_by b) h) (kept_more dropped r q p h) e).1 a i k

-- ---- Closed sets

-- a walk that keeps no statement more leaves a closed set
no_more_closed : (base dropped r : Set) (run : Statements) → Within base r → how_many_kept dropped r run ≡ how_many_kept dropped (walked dropped run r) run → IsClosed base dropped run (walked dropped run r)
no_more_closed base dropped r run b e =
    record {
      has_base = λ x h. walked_covers dropped run r x (b x h);
      has_mentioned = λ a x i d k h. walked_adds dropped a run i r x d (and_true (r (set_by a)) (not (dropped (set_by a))) (same_kept dropped r (walked dropped run r) run (walked_covers dropped run r) e a i (and_both (walked dropped run r (set_by a)) (not (dropped (set_by a))) k (ap not d)))).0 h;
    }

either_within : (dropped r q : Set) (a : Statement) (x : List ℕ) (b c : Bool) → r x ≡ b → keeping r dropped (set_by a) ≡ c → Within r q → (dropped (set_by a) ≡ false → q (set_by a) ≡ true → mentions a x ≡ true → q x ≡ true) → (b || (c && mentions a x)) ≡ true → q x ≡ true
either_within dropped r q a x true c e k h i m = h x e
either_within dropped r q a x false true e k h i m =
    let t = and_true (r (set_by a)) (not (dropped (set_by a))) k in
    i (not_true (dropped (set_by a)) t.1) (h (set_by a) t.0) m
either_within dropped r q a x false false e k h i m = absurd cc

walked_within : (base dropped q : Set) (run : Statements) → IsClosed base dropped run q → (p : Statements) → ((a : Statement) → StandsIn a p → StandsIn a run) → (r : Set) → Within r q → Within (walked dropped p r) q
walked_within base dropped q run c Nothing i r h = h
walked_within base dropped q run c (Then a p) i r h =
    walked_within base dropped q run c p (λ b s. i b (after b a p s)) (joined (keeping r dropped (set_by a)) (mentions a) r) (λ x m. either_within dropped r q a x (r x) (keeping r dropped (set_by a)) refl refl h (λ d k n. c.has_mentioned a x (i a (first a p)) d k n) m)

walks_within : (base dropped q : Set) (run : Statements) → IsClosed base dropped run q → (n : ℕ) (r : Set) → Within r q → Within (walks n dropped run r) q
walks_within base dropped q run c zero r h = h
walks_within base dropped q run c (suc n) r h = walks_within base dropped q run c n (walked dropped run r) (walked_within base dropped q run c run (λ a s. s) r h)

walks_cover : (dropped : Set) (run : Statements) (n : ℕ) (r : Set) → Within r (walks n dropped run r)
walks_cover dropped run zero r x h = h
walks_cover dropped run (suc n) r x h = walks_cover dropped run n (walked dropped run r) x (walked_covers dropped run r x h)

stays_closed : (base dropped q : Set) (run : Statements) (n : ℕ) → IsClosed base dropped run q → IsClosed base dropped run (walks n dropped run q)
stays_closed base dropped q run n c =
    record {
      has_base = λ x h. walks_cover dropped run n q x (c.has_base x h);
      has_mentioned = λ a x i d k h. walks_cover dropped run n q x (c.has_mentioned a x i d (walks_within base dropped q run c n q (λ y e. e) (set_by a) k) h);
    }

-- ---- Enough walks

le_split : (a b : ℕ) → a ≤ b → (a ≡ b) ⊎ (a < b)
le_split zero zero h = inl refl
le_split zero (suc b) h = inr (omega arith)
le_split (suc a) zero h = absurd (omega (arith, h))
le_split (suc a) (suc b) h = next (le_split a b (omega (arith, h)))
  where
    next : (a ≡ b) ⊎ (a < b) → (suc a ≡ suc b) ⊎ (suc a < suc b)
    next (inl e) = inl (ap suc e)
    next (inr e) = inr (omega (arith, e))

-- n statements at most aren't kept yet
walk_on : (base dropped : Set) (run : Statements) (n : ℕ) (r : Set) → ((q : Set) → Within base q → size run ≤ n + how_many_kept dropped q run → IsClosed base dropped run (walks (suc n) dropped run q)) → Within base r → size run ≤ suc n + how_many_kept dropped r run → (how_many_kept dropped r run ≡ how_many_kept dropped (walked dropped run r) run) ⊎ (how_many_kept dropped r run < how_many_kept dropped (walked dropped run r) run) → IsClosed base dropped run (walks (suc (suc n)) dropped run r)
walk_on base dropped run n r ih b h (inl e) = stays_closed base dropped (walked dropped run r) run (suc n) (no_more_closed base dropped r run b e)
walk_on base dropped run n r ih b h (inr e) = ih (walked dropped run r) (λ x k. walked_covers dropped run r x (b x k)) (omega (arith, h, e))

walks_closed : (base dropped : Set) (run : Statements) (n : ℕ) (r : Set) → Within base r → size run ≤ n + how_many_kept dropped r run → IsClosed base dropped run (walks (suc n) dropped run r)
walks_closed base dropped run zero r b h =
    let more = kept_more dropped r (walked dropped run r) run (walked_covers dropped run r) in
    no_more_closed base dropped r run b (omega (arith, h, more, kept_at_most dropped (walked dropped run r) run))
walks_closed base dropped run (suc n) r b h = walk_on base dropped run n r (λ q c e. walks_closed base dropped run n q c e) b h (le_split (how_many_kept dropped r run) (how_many_kept dropped (walked dropped run r) run) (kept_more dropped r (walked dropped run r) run (walked_covers dropped run r)))

pub needed_closed : (base dropped : Set) (run : Statements) → IsClosed base dropped run (needed base dropped run)
needed_closed base dropped run = walks_closed base dropped run (size run) base (λ x h. h) (omega arith)

walks_needed : (base dropped : Set) (run : Statements) (n : ℕ) (r : Set) → AreNeeded base dropped run r → AreNeeded base dropped run (walks n dropped run r)
walks_needed base dropped run zero r h = h
walks_needed base dropped run (suc n) r h = walks_needed base dropped run n (walked dropped run r) (walk_needed base dropped run r h)

pub all_needed : (base dropped : Set) (run : Statements) (x : List ℕ) → needed base dropped run x ≡ true → IsNeeded base dropped run x
all_needed base dropped run x h = (walks_needed base dropped run (suc (size run)) base (record { by = λ y e. based y e })).by x h

pub needed_found : (base dropped : Set) (run : Statements) (x : List ℕ) → IsNeeded base dropped run x → needed base dropped run x ≡ true
needed_found base dropped run x n = needed_in_closed base dropped run (needed base dropped run) x (needed_closed base dropped run) n

-- Counts of candidates, one part behind another.
use Rattle.std.proofs.Common.{◌≡◌, ℕ, ◌+◌, refl, subst, arith}
use Rattle.query_search.specs.Counted.{AreCounted, none, counted, passed}

module _ {D K : ℕ → Type 0} where
  pub nothing-counted : (k : ℕ) → AreCounted D K k (k + 0) 0
  nothing-counted k = let e : k ≡ k + 0 = omega arith in subst (λ end. AreCounted D K k end 0) e (none k)

  pub one-dropped : (k : ℕ) → D k → AreCounted D K k (k + 1) 1
  one-dropped k d = let e : 0 + 1 ≡ 1 = refl in counted k (k + 1) 0 d (none (k + 1))

  pub one-kept : (k : ℕ) → K k → AreCounted D K k (k + 1) 0
  one-kept k h = passed k (k + 1) 0 h (none (k + 1))

  pub counts-join : (k mid end m n : ℕ) → AreCounted D K k mid m → AreCounted D K mid end n → AreCounted D K k end (m + n)
  counts-join k _ end _ n (none _) h = let e : n ≡ 0 + n = omega arith in subst (AreCounted D K k end) e h
  counts-join k mid end _ n (counted _ _ m d g) h = let e : m + n + 1 ≡ m + 1 + n = omega arith in subst (AreCounted D K k end) e (counted k end (m + n) d (counts-join (k + 1) mid end m n g h))
  counts-join k mid end m n (passed _ _ _ p g) h = passed k end (m + n) p (counts-join (k + 1) mid end m n g h)

module _ {D K E L : ℕ → Type 0} where
  pub counts-map : (f : (k : ℕ) → D k → E k) (g : (k : ℕ) → K k → L k) (k end n : ℕ) → AreCounted D K k end n → AreCounted E L k end n
  counts-map f g k _ _ (none _) = none k
  counts-map f g k end _ (counted _ _ n d h) = counted k end n (f k d) (counts-map f g (k + 1) end n h)
  counts-map f g k end n (passed _ _ _ p h) = passed k end n (g k p) (counts-map f g (k + 1) end n h)

-- A text with its quotes twice, part by part.
use Rattle.std.proofs.Common.{◌≡◌, ℕ, zero, suc, ◌+◌, ◌<◌, Bool, true, false, not, eqb, List, [], ◌∷◌, ◌++◌, length, take, drop, refl, sym, ap, ◌∙◌, arith, append_assoc, add-one}
use Rattle.std.specs.List.{prefix_len, position_or_len, before_first, after_first}
use Rattle.sql_ast.specs.Canonical.{doubled}

-- no quote: the text itself
pub without : (bs : List ℕ) → position_or_len (λ b. eqb b 39) bs ≡ length bs → doubled bs ≡ bs
without [] e = refl
without (b ∷ bs) e = go (eqb b 39) refl (λ h. without bs h)
  where
    go : (v : Bool) → eqb b 39 ≡ v → (prefix_len (λ x. not (eqb x 39)) bs ≡ length bs → doubled bs ≡ bs) → doubled (b ∷ bs) ≡ b ∷ bs
    go true h again = absurd (let z : 0 ≡ length (b ∷ bs) = rw h at e in omega (arith, z))
    go false h again = let z : prefix_len (λ x. not (eqb x 39)) bs ≡ length bs = (let y : 1 + prefix_len (λ x. not (eqb x 39)) bs ≡ length (b ∷ bs) = rw h at e in omega (arith, y)) in rw h (ap (λ (w : List ℕ). b ∷ w) (again z))

pub at_quote : (bs : List ℕ) (n : ℕ) → position_or_len (λ b. eqb b 39) bs ≡ n → n < length bs → doubled bs ≡ take n bs ++ 39 ∷ 39 ∷ doubled (drop (suc n) bs)
at_quote [] n e lt = absurd (omega (arith, lt))
at_quote (b ∷ bs) zero e lt = go (eqb b 39) refl
  where
    go : (v : Bool) → eqb b 39 ≡ v → doubled (b ∷ bs) ≡ 39 ∷ 39 ∷ doubled bs
    go true h = rw h refl
    go false h = absurd (let y : 1 + prefix_len (λ x. not (eqb x 39)) bs ≡ 0 = rw h at e in omega (arith, y))
at_quote (b ∷ bs) (suc n) e lt = go (eqb b 39) refl (λ h. at_quote bs n h (omega (arith, lt)))
  where
    go : (v : Bool) → eqb b 39 ≡ v → (prefix_len (λ x. not (eqb x 39)) bs ≡ n → doubled bs ≡ take n bs ++ 39 ∷ 39 ∷ doubled (drop (suc n) bs)) → doubled (b ∷ bs) ≡ b ∷ (take n bs ++ 39 ∷ 39 ∷ doubled (drop (suc n) bs))
    go true h again = absurd (let z : 0 ≡ suc n = rw h at e in omega (arith, z))
    go false h again = let z : prefix_len (λ x. not (eqb x 39)) bs ≡ n = (let y : 1 + prefix_len (λ x. not (eqb x 39)) bs ≡ suc n = rw h at e in omega (arith, y)) in rw h (ap (λ (w : List ℕ). b ∷ w) (again z))

-- a step of the loop that copies up to a quote
pub one_more : (bs before after old : List ℕ) → position_or_len (λ b. eqb b 39) bs < length bs → before ≡ before_first (λ b. eqb b 39) bs → after ≡ after_first (λ b. eqb b 39) bs → ((old ++ before) ++ 39 ∷ 39 ∷ []) ++ doubled after ≡ old ++ doubled bs
one_more bs before after old lt first second =
    rw (first, second, add-one)
    (append_assoc (old ++ take (position_or_len (λ b. eqb b 39) bs) bs) (39 ∷ 39 ∷ []) (doubled (drop (suc (position_or_len (λ b. eqb b 39) bs)) bs))
    ∙ append_assoc old (take (position_or_len (λ b. eqb b 39) bs) bs) (39 ∷ 39 ∷ doubled (drop (suc (position_or_len (λ b. eqb b 39) bs)) bs))
    ∙ ap (λ (w : List ℕ). old ++ w) (sym (at_quote bs _ refl lt)))

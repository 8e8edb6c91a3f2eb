-- Binomial coefficients from one another, and how large they are.
use Rattle.std.proofs.Common.{◌≡◌, ℕ, zero, suc, ◌+◌, ◌*◌, ◌-◌, ◌/◌, ◌^◌, ◌≤◌, refl, ap, ◌∙◌, arith}
use Rattle.std.proofs.Common.{lit≤}
use Rattle.std.proofs.Math.Nat.{mul-div_cancel, mul-le-mul, mul-le-mul_left, mul-le-mul_right, le-mul_of_pos_right, pow-suc, pow-le-pow_right}
use Rattle.templates.specs.Binomial.{binomial}

pub binomial-none : (n : ℕ) → binomial n zero ≡ 1
unfolding binomial
binomial-none zero = refl
binomial-none (suc n) = refl

pub binomial-empty : (k : ℕ) → binomial zero (suc k) ≡ 0
unfolding binomial
binomial-empty k = refl

pub binomial-pascal : (n k : ℕ) → binomial (suc n) (suc k) ≡ binomial n k + binomial n (suc k)
unfolding binomial
binomial-pascal n k = refl

-- with A, B and C for n over k, over k + 1 and over k + 2
regroup : (A B C k d : ℕ) → B * suc k ≡ A * suc d → C * suc (suc k) ≡ B * d → (B + C) * suc (suc k) ≡ (A + B) * suc d
regroup A B C k d p q = omega arith

regroup_none : (A B C k : ℕ) → B * suc k ≡ A * 0 → C * suc (suc k) ≡ B * 0 → (B + C) * suc (suc k) ≡ (A + B) * 0
regroup_none A B C k p q = let b : B ≡ 0 = omega arith in omega arith

-- the step from one to the next, where k may pass n
pub binomial-next : (n k : ℕ) → binomial n (suc k) * suc k ≡ binomial n k * (n - k)
binomial-next zero zero = rw (binomial-empty, binomial-none) refl
binomial-next zero (suc k) = let a : binomial zero (suc (suc k)) ≡ 0 = binomial-empty (suc k) in let b : binomial zero (suc k) ≡ 0 = binomial-empty k in rw (a, b) (omega arith)
binomial-next (suc n) zero =
    let z : n - 0 ≡ n = omega arith in
    let h : binomial n 1 * 1 ≡ binomial n 0 * n = binomial-next n zero ∙ ap (λ x. binomial n 0 * x) z in
    let a : binomial n 0 ≡ 1 = binomial-none n in
    let b : binomial (suc n) 0 ≡ 1 = binomial-none (suc n) in
    let c : binomial (suc n) 1 ≡ binomial n 0 + binomial n 1 = binomial-pascal n 0 in
    let d : binomial n 1 * 1 ≡ 1 * n = h ∙ ap (λ x. x * n) a in
    rw (b, c) (omega arith)
binomial-next (suc n) (suc k) = rw (binomial-pascal n k, binomial-pascal n (suc k)) (go (n - k) refl (binomial-next n k) (binomial-next n (suc k)))
  where
    go : (d : ℕ) → n - k ≡ d → binomial n (suc k) * suc k ≡ binomial n k * (n - k) → binomial n (suc (suc k)) * suc (suc k) ≡ binomial n (suc k) * (n - suc k)
        → (binomial n (suc k) + binomial n (suc (suc k))) * suc (suc k) ≡ (binomial n k + binomial n (suc k)) * (suc n - suc k)
    go zero e p q =
        let f : n - suc k ≡ 0 = omega arith in
        let g : suc n - suc k ≡ 0 = omega arith in
        rw g (regroup_none (binomial n k) (binomial n (suc k)) (binomial n (suc (suc k))) k (rw e at p) (rw f at q))
    go (suc d) e p q =
        let f : n - suc k ≡ d = omega arith in
        let g : suc n - suc k ≡ suc d = omega arith in
        rw g (regroup (binomial n k) (binomial n (suc k)) (binomial n (suc (suc k))) k d (rw e at p) (rw f at q))

-- where the next one is a quotient
pub next_by_division : (n k : ℕ) → binomial n k * (n - k) / suc k ≡ binomial n (suc k)
next_by_division n k = rw (← binomial-next n k) (mul-div_cancel (binomial n (suc k)) {n = suc k} (omega arith))

small : (A B k d : ℕ) → B * suc k ≡ A * d → d ≤ 128 → B ≤ A * 128
small A B k d e h =
    let f : A * d ≤ A * 128 = mul-le-mul_left A h in
    let g : B ≤ B * suc k = le-mul_of_pos_right {m = suc k} B (omega arith) in
    omega arith

pub binomial_le : (n k : ℕ) → n ≤ 128 → binomial n k ≤ 128 ^ k
binomial_le n zero h = rw (binomial-none n) (lit≤ tt)
binomial_le n (suc k) h =
    let d : n - k ≤ 128 = omega arith in
    let e : binomial n (suc k) ≤ binomial n k * 128 = small (binomial n k) (binomial n (suc k)) k (n - k) (binomial-next n k) d in
    let f : binomial n k * 128 ≤ 128 ^ k * 128 = mul-le-mul_right 128 (binomial_le n k h) in
    rw (pow-suc 128 k) (omega arith)

-- a number of 56 bits
pub binomial_small : (n k : ℕ) → n ≤ 128 → k ≤ 8 → binomial n k ≤ 72057594037927936
binomial_small n k h l =
    let a : binomial n k ≤ 128 ^ k = binomial_le n k h in
    let b : 128 ^ k ≤ 128 ^ 8 = pow-le-pow_right {n = 128} (lit≤ tt) l in
    let c : 128 ^ 8 ≡ 72057594037927936 = refl in
    omega arith

pub product_small : (n k : ℕ) → n ≤ 128 → k ≤ 8 → binomial n k * (n - k) ≤ 9223372036854775808
product_small n k h l =
    let d : n - k ≤ 128 = omega arith in
    let a : binomial n k * (n - k) ≤ 72057594037927936 * 128 = mul-le-mul (binomial_small n k h l) d in
    a

-- Binomial coefficients, by Pascal's rule.
use Rattle.std.specs.Prelude.{ℕ, zero, suc, ◌+◌}

-- how many ways there are to choose k of n
unfoldable pub binomial : ℕ → ℕ → ℕ
binomial n zero = 1
binomial zero (suc k) = 0
binomial (suc n) (suc k) = binomial n k + binomial n (suc k)

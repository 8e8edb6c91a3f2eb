-- The digits that are written of a number.
use Rattle.std.proofs.Common.{◌≡◌, ℕ, ◌+◌, ◌<◌, ◌^◌, [], map, refl}
use Rattle.std.specs.Prelude.{decimal}
use Rattle.std.specs.Int.Digits.{digits_of}
use Rattle.std.proofs.lemmas.Fmt.{decimal-digits_of}

pub digits : (n : ℕ) → 0 < n → n < 2 ^ 64 → decimal n ≡ map (λ d. 48 + d) (digits_of 10 n)
digits n above below = decimal-digits_of n above below

pub no_digits : map (λ d. 48 + d) (digits_of 10 0) ≡ []
no_digits = refl

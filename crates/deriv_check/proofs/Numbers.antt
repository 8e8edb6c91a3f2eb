-- Numbers below 2 ^ 32: the reader is exact.
use Rattle.std.proofs.Common.{◌≡◌, ◌+◌, ◌^◌, ◌<◌, ℕ, List, ◌∷◌, arith}
use Rattle.std.specs.Fmt.{decimal}
use Rattle.text_readers.proofs.Exact.{Exact}
use Rattle.text_readers.proofs.Numbers.{NoDigit}
use Rattle.text_readers.proofs.Numbers as below
use Rattle.deriv_check.specs.Grammar.{IsSmall}
use Rattle.deriv_check.specs.Reading.{number_at}

-- the text of a number begins with a digit
pub first_digit : (n : ℕ) → n < 2 ^ 32 → (d : ℕ) × (ms : List ℕ) × (decimal n ≡ (48 + d) ∷ ms) × (d < 10)
first_digit n lt = below.first_digit (2 ^ 32) (omega arith) (omega arith) n lt

pub exact_number : Exact decimal IsSmall NoDigit number_at
exact_number = below.exact_number (2 ^ 32) (omega arith) (omega arith)

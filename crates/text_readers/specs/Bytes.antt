-- Single bytes, words and numbers, read from left to right.
use Rattle.std.specs.Prelude.{◌+◌, ◌-◌, ◌*◌, ℕ, Bool, ◌&&◌, nat_eq, nat_lt, nat_le, List, [], ◌∷◌, Option, Some, None, Ok, if◌then◌else◌}
use Rattle.readers.specs.Reading.{◌>>=◌, Read, token_at, both, made, option_cases}

abbrev pub Reader : Type 0 → Type 0
Reader A = List ℕ → Read ℕ A

-- ---- single bytes and words

abbrev pub passing : (ℕ → Bool) → ℕ → Option (Unit {0})
passing test b = if test b then Some tt else None

abbrev pub byte_at : ℕ → Reader (Unit {0})
byte_at b ts = token_at (passing (λ t. nat_eq t b)) ts

unfoldable pub word_at : List ℕ → Reader (Unit {0})
word_at [] ts = Ok (tt, ts)
word_at (b ∷ bs) ts = made (λ _. tt) (both (byte_at b) (word_at bs)) ts

-- ---- numbers

abbrev pub is_digit : ℕ → Bool
is_digit b = nat_le 48 b && nat_le b 57

abbrev pub digit_in : ℕ → Option ℕ
digit_in b = if is_digit b then Some (b - 48) else None

-- a number, where it is below the limit
abbrev pub below : ℕ → ℕ → Option ℕ
below limit n = if nat_lt n limit then Some n else None

-- a number with one more digit, where it stays below the limit
abbrev pub with_digit : ℕ → ℕ → ℕ → Option ℕ
with_digit limit n b = option_cases (digit_in b) None (λ d. below limit (n * 10 + d))

-- digits behind those of n, as long as the number stays below the limit
unfoldable pub digits_from : ℕ → ℕ → List ℕ → ℕ × List ℕ
digits_from limit n [] = (n, [])
digits_from limit n (b ∷ bs) = option_cases (with_digit limit n b) (n, b ∷ bs) (λ m. digits_from limit m bs)

-- behind a first digit; nothing goes on behind 0
abbrev pub behind : ℕ → ℕ → List ℕ → ℕ × List ℕ
behind limit n ts = if nat_eq n 0 then (n, ts) else digits_from limit n ts

unfoldable pub number_at : ℕ → Reader ℕ
number_at limit ts = token_at digit_in ts >>= λ x. Ok (behind limit x.0 x.1)

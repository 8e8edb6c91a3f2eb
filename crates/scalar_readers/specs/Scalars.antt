-- Scalars by their texts, read from left to right.
use Rattle.std.specs.Prelude.{◌≡◌, ℕ, ◌+◌, ◌-◌, ◌^◌, ℤ, pos, negsuc, Bool, true, false, ◌||◌, nat_eq, codes, IsTrue}
use Rattle.std.specs.Str.{is_utf8}
use Rattle.readers.specs.Reading.{both, made, either}
use Rattle.qbs_base.specs.declared.scalar.Scalar.{Scalar}
use Rattle.qbs_base.specs.declared.scalar.Scalar.TheVariants as scalars
use Rattle.qbs_base.specs.declared.scalar.Ty.{Ty}
use Rattle.qbs_base.specs.declared.scalar.Ty.TheVariants as tys
use Rattle.qbs_base.specs.Values.{fits_long}
use Rattle.text_readers.specs.Bytes.{Reader, byte_at, word_at, number_at}
use Rattle.scalar_readers.specs.Choices.{unless}
use Rattle.scalar_readers.specs.Chars.{is_quote, text_at}

-- ---- numbers with a sign

abbrev pub is_zero : ℕ → Bool
is_zero b = nat_eq b 48

abbrev pub is_dash : ℕ → Bool
is_dash b = nat_eq b 45

-- a number from 1 to 2 ^ 63
unfoldable pub positive_at : Reader ℕ
positive_at ts = unless is_zero (number_at (2 ^ 63 + 1)) ts

abbrev pub below_zero : ℕ → ℤ
below_zero n = negsuc (n - 1)

unfoldable pub negative_at : Reader ℤ
negative_at ts = made (λ x. below_zero x.1) (both (byte_at 45) positive_at) ts

unfoldable pub natural_at : Reader ℤ
natural_at ts = made (λ n. pos n) (number_at (2 ^ 63)) ts

unfoldable pub long_at : Reader ℤ
long_at ts = either is_dash negative_at natural_at ts

-- ---- truth values

abbrev pub is_t : ℕ → Bool
is_t b = nat_eq b 116

unfoldable pub truth_at : Reader Bool
truth_at ts = either is_t (made (λ _. true) (word_at (codes "true"))) (made (λ _. false) (word_at (codes "false"))) ts

-- ---- scalars

-- of this type
unfoldable pub scalar_at : Ty → Reader Scalar
scalar_at tys.Long ts = made (λ n. scalars.Long n) long_at ts
scalar_at tys.Bool ts = made (λ b. scalars.Bool b) truth_at ts
scalar_at tys.Text ts = made (λ t. scalars.Text t) text_at ts

abbrev pub is_truth : ℕ → Bool
is_truth b = nat_eq b 116 || nat_eq b 102

-- of any type, by the first byte
unfoldable pub any_at : Reader Scalar
any_at ts = either is_quote (scalar_at tys.Text) (either is_truth (scalar_at tys.Bool) (scalar_at tys.Long)) ts

-- ---- what is read

abbrev pub ty_of : Scalar → Ty
ty_of (scalars.Long n) = tys.Long
ty_of (scalars.Bool b) = tys.Bool
ty_of (scalars.Text t) = tys.Text

-- a scalar of this type, a number of 64 bits or a text that is UTF-8
abbrev pub IsRead : Ty → Scalar → Type 0
IsRead tys.Long (scalars.Long n) = IsTrue (fits_long n)
IsRead tys.Bool (scalars.Bool b) = Unit {0}
IsRead tys.Text (scalars.Text t) = is_utf8 t ≡ true
IsRead _ _ = ⊥

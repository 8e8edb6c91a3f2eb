-- The numbers that digits write.
use Rattle.std.proofs.Common.{◌≡◌, ℕ, ◌<◌, ◌^◌, Bool, true, false, cond, List, [], ◌∷◌, length, Some, None, Result, Ok, Err, refl, arith, rules}
use Rattle.std.specs.Prelude.{nat_lt}
use Rattle.std.specs.Char.{is_ascii_digit}
use Rattle.std.specs.List.{list_all}
use Rattle.std.specs.Result.{OkIff, result_ok}
use Rattle.std.specs.Str.{all_ascii_digits}
use Rattle.std.specs.Str.Parse.{ParsesUnsigned, digits_value}
use Rattle.std.proofs.lemmas.Bool.{ltb-true, lt-ltb}
use Rattle.std.proofs.lemmas.Str.Parse.{IsNumeralModel, numerals_by_value, parse_digits}
use Rattle.sql_ast.specs.Tokens.{is_number}
use Rattle.sql_parse.specs.Seen.{number_below}

decimal_digits : IsNumeralModel (λ ds. all_ascii_digits ds ≡ true) (digits_value 10)
decimal_digits = numerals_by_value _ (search rules)

parsed_by : {E : Type 0} (ds : List ℕ) (r : Result ℕ E) → 0 < length ds → OkIff r ((0 < length ds) × (digits_value 10 ds < 2 ^ 64)) (digits_value 10 ds) → result_ok r ≡ number_below ds
parsed_by ds (Ok x) some h = rw (lt-ltb (digits_value 10 ds) (2 ^ 64) h.0.1, h.1) refl
parsed_by ds (Err e) some h = by (nat_lt (digits_value 10 ds) (2 ^ 64)) refl
  where
    by : (v : Bool) → nat_lt (digits_value 10 ds) (2 ^ 64) ≡ v → None ≡ cond v (Some (digits_value 10 ds)) None
    by true e = absurd (h (some, ltb-true (digits_value 10 ds) (2 ^ 64) e))
    by false e = refl

all_digits : (ds : List ℕ) → list_all is_ascii_digit ds ≡ true → all_ascii_digits ds ≡ true
all_digits [] h = refl
all_digits (d ∷ ds) h = by (is_ascii_digit d) refl (all_digits ds)
  where
    by : (v : Bool) → is_ascii_digit d ≡ v → (list_all is_ascii_digit ds ≡ true → all_ascii_digits ds ≡ true) → all_ascii_digits (d ∷ ds) ≡ true
    by true e again = rw e (again (rw e at h))
    by false e again = absurd (let z : false ≡ true = rw e at h in cc)

number_digits : (ds : List ℕ) → is_number ds ≡ true → (0 < length ds) × (all_ascii_digits ds ≡ true)
number_digits [] h = absurd cc
number_digits (d ∷ ds) h = (omega arith, all_digits (d ∷ ds) h)

pub parsed : {E : Type 0} (ds : List ℕ) (r : Result ℕ E) → is_number ds ≡ true → ParsesUnsigned 64 10 ds r → result_ok r ≡ number_below ds
parsed ds r all h = parsed_by ds r (number_digits ds all).0 (parse_digits decimal_digits 64 ds r h (number_digits ds all).1)

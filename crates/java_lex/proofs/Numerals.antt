-- Digits, and the integers that they write.
use Rattle.std.proofs.Common.{◌≡◌, ℕ, suc, ◌+◌, ◌<◌, ◌≤◌, ◌^◌, Bool, true, false, cond, List, [], ◌∷◌, take, length, Some, None, Result, Ok, Err, refl, arith, w64, rules}
use Rattle.std.specs.Prelude.{ℤ, pos, nat_lt}
use Rattle.std.specs.List.{prefix_len}
use Rattle.std.specs.Result.{OkIff, result_ok}
use Rattle.std.specs.Str.{IsAscii, all_ascii_digits}
use Rattle.std.specs.Str.Parse.{ParsesSigned, digits_value}
use Rattle.std.proofs.lemmas.Bool.{ltb-true, lt-ltb}
use Rattle.std.proofs.lemmas.Bool.{eqb-true}
use Rattle.std.proofs.lemmas.List.Sums.{prefix_len-le-length}
use Rattle.std.proofs.lemmas.Str.Parse.{IsNumeralModel, numerals_by_value, parse_signed_digits}
use Rattle.java_lex.specs.Bytes.{begins_with, zero_digit}
use Rattle.qbs_base.specs.Bytes.{is_digit}
use Rattle.java_lex.specs.Pieces.{digits_len, number_of}
use Rattle.java_lex.proofs.Ascii.{one_more, nil_is_ascii, cons_is_ascii, digits_are_ascii}
use Rattle.java_lex.proofs.Lengths.{on_cond}

decimal_digits : IsNumeralModel (λ ds. all_ascii_digits ds ≡ true) (digits_value 10)
decimal_digits = numerals_by_value _ (search rules)

pub front_digits : (bs : List ℕ) → all_ascii_digits (take (prefix_len is_digit bs) bs) ≡ true
front_digits [] = refl
front_digits (b ∷ bs) = by (is_digit b) refl (front_digits bs)
  where
    by : (v : Bool) → is_digit b ≡ v → all_ascii_digits (take (prefix_len is_digit bs) bs) ≡ true → all_ascii_digits (take (cond v (1 + prefix_len is_digit bs) 0) (b ∷ bs)) ≡ true
    by true e r = rw (one_more (prefix_len is_digit bs), e, r) refl
    by false e r = refl

pub digits_front : (bs : List ℕ) → all_ascii_digits (take (digits_len bs) bs) ≡ true
digits_front [] = refl
digits_front (b ∷ bs) =
    on_cond (λ (n : ℕ). all_ascii_digits (take n (b ∷ bs)) ≡ true) (begins_with zero_digit (b ∷ bs)) 1 (prefix_len is_digit (b ∷ bs)) (λ e. zero_first e) (λ _. front_digits (b ∷ bs))
  where
    zero_first : begins_with zero_digit (b ∷ bs) ≡ true → all_ascii_digits (b ∷ []) ≡ true
    zero_first e = rw (eqb-true b 48 e) refl

pub digits_ascii : (bs : List ℕ) → IsAscii (take (digits_len bs) bs)
digits_ascii [] = nil_is_ascii
digits_ascii (b ∷ bs) =
    on_cond (λ (n : ℕ). IsAscii (take n (b ∷ bs))) (begins_with zero_digit (b ∷ bs)) 1 (prefix_len is_digit (b ∷ bs)) (λ e. zero_first e) (λ _. digits_are_ascii (b ∷ bs))
  where
    zero_first : begins_with zero_digit (b ∷ bs) ≡ true → IsAscii (b ∷ [])
    zero_first e = rw (eqb-true b 48 e) (cons_is_ascii 48 [] (omega arith) nil_is_ascii)

pub digits_len_le : (bs : List ℕ) → digits_len bs ≤ length bs
digits_len_le [] = omega arith
digits_len_le (b ∷ bs) =
    on_cond (λ (n : ℕ). n ≤ suc (length bs)) (begins_with zero_digit (b ∷ bs)) 1 (prefix_len is_digit (b ∷ bs)) (λ _. omega arith) (λ _. prefix_len-le-length is_digit (b ∷ bs))

parsed_by : {E : Type 0} (ds : List ℕ) (r : Result ℤ E) → 0 < length ds → OkIff r ((0 < length ds) × (digits_value 10 ds < 2 ^ 63)) (pos (digits_value 10 ds)) → result_ok r ≡ number_of ds
parsed_by ds (Ok x) some h = rw (lt-ltb (digits_value 10 ds) (2 ^ 63) h.0.1, h.1) refl
parsed_by ds (Err e) some h = by (nat_lt (digits_value 10 ds) (2 ^ 63)) refl
  where
    by : (v : Bool) → nat_lt (digits_value 10 ds) (2 ^ 63) ≡ v → None ≡ cond v (Some (pos (digits_value 10 ds))) None
    by true e = absurd (h (some, ltb-true (digits_value 10 ds) (2 ^ 63) e))
    by false e = refl

pub parsed : {E : Type 0} (ds : List ℕ) (r : Result ℤ E) → all_ascii_digits ds ≡ true → 0 < length ds → ParsesSigned w64 10 ds r → result_ok r ≡ number_of ds
parsed ds r all some h = parsed_by ds r some (parse_signed_digits decimal_digits w64 ds r h all)

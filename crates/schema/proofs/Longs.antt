-- Whole numbers and texts, as std reads them.
use Rattle.std.proofs.Common.{◌≡◌, ℕ, zero, suc, ◌^◌, ◌≤◌, ◌<◌, ◌≢◌, Bool, true, false, ◌&&◌, cond, List, [], ◌∷◌, length, get_or, drop, Option, Some, None, Result, Ok, Err, refl, sym, subst, arith, inl, inr, ◌⊎◌, eqb-true, false-eqb, rules, w64}
use Rattle.std.specs.Prelude.{ℤ, pos, neg_ℤ, nat_le, nat_lt, IsUtf8, IfSome, IsSome}
use Rattle.std.specs.Result.{OkIff, result_ok}
use Rattle.std.specs.Str.{is_utf8, IsAscii}
use Rattle.std.specs.Str.Parse.{ParsesSigned}
use Rattle.std.proofs.lemmas.Bool.Decides.{nat_tests}
use Rattle.std.proofs.lemmas.Str.{IsUtf8-from_is_utf8, is_utf8-from_IsUtf8, IsUtf8-from_ascii}
use Rattle.std.proofs.lemmas.Str.Parse.{IsNumeralModel, numerals_by_fold, parse_signed_minus, parse_signed_plain, parse_signed_plus}
use Rattle.qbs_base.specs.Values.{fits_long}
use Rattle.schema.specs.Bytes.{begins_with}
use Rattle.qbs_base.specs.Bytes.{is_digit}
use Rattle.schema.specs.Rows.{all_digits, number_from, long_with, long_of, text_of}

own : IsNumeralModel (λ ds. all_digits ds ≡ true) (number_from 0)
own = numerals_by_fold _ (search rules) number_from (search rules)

-- ---- texts

pub text_is : (bs : List ℕ) (o : Option (List ℕ)) → IfSome o (λ t. t ≡ bs) → (IsUtf8 bs → IsSome o) → IfSome o (λ t. IsUtf8 t) → o ≡ text_of bs
text_is bs (Some t) same some utf8 =
    let is : is_utf8 bs ≡ true = is_utf8-from_IsUtf8 bs (subst IsUtf8 same utf8) in
    rw (is, same) refl
text_is bs None same some utf8 = by_test (is_utf8 bs) refl
  where
    by_test : (b : Bool) → is_utf8 bs ≡ b → None ≡ text_of bs
    by_test true e = let none = some (IsUtf8-from_is_utf8 bs e) in absurd cc
    by_test false e = rw e refl

-- ---- numbers

option_of : {E : Type 0} (r : Result ℤ E) (P : Type 0) (v : ℤ) (b : Bool) → OkIff r P v → (b ≡ true → P) → (P → b ≡ true) → result_ok r ≡ cond b (Some v) None
option_of (Ok x) P v b h to of =
    let is = of h.0 in
    rw (is, h.1) refl
option_of (Err e) P v b h to of = by_test b refl
  where
    by_test : (c : Bool) → b ≡ c → None ≡ cond c (Some v) None
    by_test true e = absurd (h (to e))
    by_test false e = refl

both_true : (a b : Bool) → (a && b) ≡ true → (a ≡ true) × (b ≡ true)
both_true true true e = (refl, refl)
both_true true false e = absurd cc
both_true false b e = absurd cc

with_is : {E : Type 0} (sign : ℤ → ℤ) (Q : ℕ → Type 0) → ((n : ℕ) → fits_long (sign (pos n)) ≡ true → Q n) → ((n : ℕ) → Q n → fits_long (sign (pos n)) ≡ true)
    → (bs : List ℕ) (r : Result ℤ E) → OkIff r ((all_digits bs ≡ true) × (0 < length bs) × Q (number_from 0 bs)) (sign (pos (number_from 0 bs))) → result_ok r ≡ long_with sign bs
with_is sign Q to of [] (Ok x) h = absurd (omega (arith, h.0.1))
with_is sign Q to of [] (Err e) h = refl
with_is sign Q to of (d ∷ ds) r h =
    option_of r ((all_digits (d ∷ ds) ≡ true) × (0 < length (d ∷ ds)) × Q (number_from 0 (d ∷ ds))) (sign (pos (number_from 0 (d ∷ ds)))) (all_digits (d ∷ ds) && fits_long (sign (pos (number_from 0 (d ∷ ds))))) h
    (λ e. let parts = both_true (all_digits (d ∷ ds)) (fits_long (sign (pos (number_from 0 (d ∷ ds))))) e in (parts.0, omega arith, to (number_from 0 (d ∷ ds)) parts.1))
    (λ p. let fits = of (number_from 0 (d ∷ ds)) p.2 in rw (p.0, fits) refl)

plain_to : (n : ℕ) → nat_lt n (2 ^ 63) ≡ true → n < 2 ^ 63
plain_to n e = grind (arith, nat_tests, e)

plain_of : (n : ℕ) → n < 2 ^ 63 → nat_lt n (2 ^ 63) ≡ true
plain_of n lt = grind (arith, nat_tests, lt)

minus_to : (n : ℕ) → fits_long (neg_ℤ (pos n)) ≡ true → n ≤ 2 ^ 63
minus_to zero e = omega arith
minus_to (suc n) e = let lt = plain_to n e in omega arith

minus_of : (n : ℕ) → n ≤ 2 ^ 63 → fits_long (neg_ℤ (pos n)) ≡ true
minus_of zero le = refl
minus_of (suc n) le = plain_of n (omega arith)

first_is : (b : ℕ) (bs : List ℕ) → begins_with b bs ≡ true → get_or bs 0 0 ≡ b
first_is b [] e = absurd cc
first_is b (c ∷ cs) e = eqb-true c b e

first_not : (b : ℕ) (bs : List ℕ) → 0 < b → begins_with b bs ≡ false → get_or bs 0 0 ≢ b
first_not b [] some e same = absurd (omega arith)
first_not b (c ∷ cs) some e same = absurd (false-eqb c b (sym e) same)

by_test : (b : Bool) → (b ≡ true) ⊎ (b ≡ false)
by_test true = inl refl
by_test false = inr refl

pub long_is : {E : Type 0} (bs : List ℕ) (r : Result ℤ E) → ParsesSigned w64 10 bs r → result_ok r ≡ long_of bs
unfolding long_of
long_is bs r h =
    elim (by_test (begins_with 43 bs)) [
      | inl plus ↦ rw plus (with_is (λ z. z) (λ n. n < 2 ^ 63) plain_to plain_of (drop 1 bs) r (parse_signed_plus own w64 bs r h (first_is 43 bs plus)))
      | inr unsigned ↦ elim (by_test (begins_with 45 bs)) [
        | inl minus ↦ rw (unsigned, minus) (with_is neg_ℤ (λ n. n ≤ 2 ^ 63) minus_to minus_of (drop 1 bs) r (parse_signed_minus own w64 bs r h (first_is 45 bs minus)))
        | inr plain ↦ rw (unsigned, plain) (with_is (λ z. z) (λ n. n < 2 ^ 63) plain_to plain_of bs r (parse_signed_plain own w64 bs r h (first_not 43 bs (omega arith) unsigned) (first_not 45 bs (omega arith) plain)))
      ]
    ]

-- ---- a number is UTF-8

digits_ascii : (ds : List ℕ) → all_digits ds ≡ true → IsAscii ds
digits_ascii [] e i = omega arith
digits_ascii (d ∷ ds) e zero =
    let parts = both_true (is_digit d) (all_digits ds) e in
    let range = both_true (nat_le 48 d) (nat_le d 57) parts.0 in
    let within : d ≤ 57 = grind (arith, nat_tests, range.1) in
    omega arith
digits_ascii (d ∷ ds) e (suc i) = digits_ascii ds (both_true (is_digit d) (all_digits ds) e).1 i

with_ascii : (sign : ℤ → ℤ) (ds : List ℕ) (z : ℤ) → long_with sign ds ≡ Some z → IsAscii ds
with_ascii sign [] z e = absurd cc
with_ascii sign (d ∷ ds) z e = by_tests (all_digits (d ∷ ds)) (fits_long (sign (pos (number_from 0 (d ∷ ds))))) refl e
  where
    by_tests : (a b : Bool) → all_digits (d ∷ ds) ≡ a → cond (a && b) (Some (sign (pos (number_from 0 (d ∷ ds))))) None ≡ Some z → IsAscii (d ∷ ds)
    by_tests true b is f = digits_ascii (d ∷ ds) is
    by_tests false b is f = absurd cc

behind_ascii : (b : ℕ) (bs : List ℕ) → b < 128 → begins_with b bs ≡ true → IsAscii (drop 1 bs) → IsAscii bs
behind_ascii b [] small e h i = absurd cc
behind_ascii b (c ∷ cs) small e h zero = let same = eqb-true c b e in omega arith
behind_ascii b (c ∷ cs) small e h (suc i) = h i

long_ascii : (bs : List ℕ) (z : ℤ) → long_of bs ≡ Some z → IsAscii bs
unfolding long_of
long_ascii bs z e =
    elim (by_test (begins_with 43 bs)) [
      | inl plus ↦ behind_ascii 43 bs (omega arith) plus (with_ascii (λ y. y) (drop 1 bs) z (rw plus at e))
      | inr unsigned ↦ elim (by_test (begins_with 45 bs)) [
        | inl minus ↦ behind_ascii 45 bs (omega arith) minus (with_ascii neg_ℤ (drop 1 bs) z (rw (unsigned, minus) at e))
        | inr plain ↦ with_ascii (λ y. y) bs z (rw (unsigned, plain) at e)
      ]
    ]

pub no_long : (bs : List ℕ) → (IsUtf8 bs → ⊥) → None ≡ long_of bs
no_long bs h = by_number (long_of bs) refl
  where
    by_number : (o : Option ℤ) → long_of bs ≡ o → None ≡ long_of bs
    by_number None e = sym e
    by_number (Some z) e = absurd (h (IsUtf8-from_ascii bs (long_ascii bs z e)))

-- A word is the decimal digits of a number within a range.
use Rattle.std.proofs.Common.{◌≡◌, ℕ, ◌≤◌, ◌<◌, ◌^◌, Bool, true, false, ◌&&◌, if◌then◌else◌, List, [], ◌∷◌, refl, sym, ap, ◌∙◌, subst, arith, Result, Ok, nat_le, nat_eq, Some, None}
use Rattle.std.specs.Fmt.{decimal}
use Rattle.std.specs.Str.{bytes_eq}
use Rattle.std.specs.Str.Parse.{digits_value, ParsesUnsigned}
use Rattle.std.specs.Cmp.Lexicographic.{same_text}
use Rattle.std.proofs.lemmas.Fmt.{decimal_is_IsNumeral, parse-decimal}
use Rattle.std.proofs.lemmas.Bool.Decides.{nat_tests}
use Rattle.word_values.specs.Values.{within, number_within}

pub same_bytes : (xs : List ℕ) → bytes_eq xs xs ≡ true
same_bytes [] = refl
same_bytes (x ∷ xs) = let e : nat_eq x x ≡ true = grind (arith, nat_tests) in rw e (same_bytes xs)

pub equal_bytes : (xs ys : List ℕ) → xs ≡ ys → bytes_eq xs ys ≡ true
equal_bytes xs ys e = subst (λ zs. bytes_eq xs zs ≡ true) e (same_bytes xs)

pub bytes_equal : (xs ys : List ℕ) → bytes_eq xs ys ≡ true → xs ≡ ys
bytes_equal xs ys e = same_text xs ys (sym e)

le_from : (x y : ℕ) → nat_le x y ≡ true → x ≤ y
le_from x y e = grind (arith, nat_tests)

to_le : (x y : ℕ) → x ≤ y → nat_le x y ≡ true
to_le x y h = grind (arith, nat_tests)

-- what is within a range
pub within_some : (m low high : ℕ) (w : List ℕ) → low ≤ m → m ≤ high → w ≡ decimal m → within m low high w ≡ Some m
within_some m low high w l h e =
    let p : nat_le low m ≡ true = to_le low m l in
    let q : nat_le m high ≡ true = to_le m high h in
    let r : bytes_eq w (decimal m) ≡ true = equal_bytes w (decimal m) e in
    rw (p, q, r) refl

pub record IsWithin (m low high : ℕ) (w : List ℕ) : Type 0 where
  pub low_le : low ≤ m
  pub le_high : m ≤ high
  pub digits : w ≡ decimal m

pub within_is : (m low high n : ℕ) (w : List ℕ) → within m low high w ≡ Some n → IsWithin n low high w
within_is m low high n w = go (nat_le low m) (nat_le m high) (bytes_eq w (decimal m)) (le_from low m) (le_from m high) (bytes_equal w (decimal m))
  where
    go : (a b c : Bool) → (a ≡ true → low ≤ m) → (b ≡ true → m ≤ high) → (c ≡ true → w ≡ decimal m) →
        (if a && b && c then Some m else None) ≡ Some n → IsWithin n low high w
    go true true true f g h e = let same : m ≡ n = cc in subst (λ k. IsWithin k low high w) same (record { low_le = f refl; le_high = g refl; digits = h refl })
    go true true false f g h e = absurd cc
    go true false c f g h e = absurd cc
    go false b c f g h e = absurd cc

within_none : (m low high : ℕ) (w : List ℕ) → (low ≤ m → m ≤ high → w ≡ decimal m → ⊥) → within m low high w ≡ None
within_none m low high w = go (nat_le low m) (nat_le m high) (bytes_eq w (decimal m)) (le_from low m) (le_from m high) (bytes_equal w (decimal m))
  where
    go : (a b c : Bool) → (a ≡ true → low ≤ m) → (b ≡ true → m ≤ high) → (c ≡ true → w ≡ decimal m) →
        (low ≤ m → m ≤ high → w ≡ decimal m → ⊥) → (if a && b && c then Some m else None) ≡ None
    go true true true f g h never = absurd (never (f refl) (g refl) (h refl))
    go true true false f g h never = refl
    go true false c f g h never = refl
    go false b c f g h never = refl

pub number_within_decimal : (low high n : ℕ) → high < 2 ^ 64 → low ≤ n → n ≤ high → number_within low high (decimal n) ≡ Some n
number_within_decimal low high n small l h =
    let fits : n < 2 ^ 64 = omega arith in
    let e : digits_value 10 (decimal n) ≡ n = (decimal_is_IsNumeral n fits).1 in
    ap (λ m. within m low high (decimal n)) e ∙ within_some n low high (decimal n) l h refl

pub number_within_is : (low high n : ℕ) (w : List ℕ) → number_within low high w ≡ Some n → IsWithin n low high w
number_within_is low high n w e = within_is (digits_value 10 w) low high n w e

pub number_some : (low high n : ℕ) (w : List ℕ) → high < 2 ^ 64 → low ≤ n → n ≤ high → w ≡ decimal n → Some n ≡ number_within low high w
number_some low high n w small l h e = sym (subst (λ v. number_within low high v ≡ Some n) (sym e) (number_within_decimal low high n small l h))

-- `parse` reads no number, or another one, or one outside the range
pub number_none : {E : Type 0} (low high : ℕ) (w : List ℕ) (r : Result ℕ E) → high < 2 ^ 64 → ParsesUnsigned 64 10 w r →
    ((n : ℕ) → r ≡ Ok n → low ≤ n → n ≤ high → w ≡ decimal n → ⊥) → None ≡ number_within low high w
number_none low high w r small parses never =
    let m : ℕ = digits_value 10 w in
    sym (within_none (digits_value 10 w) low high w (λ l h e.
    let fits : digits_value 10 w < 2 ^ 64 = omega arith in
    never (digits_value 10 w) (parse-decimal 64 (digits_value 10 w) w r fits fits e parses) l h e))

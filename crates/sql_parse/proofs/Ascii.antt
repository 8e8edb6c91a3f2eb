-- Names and digits are ASCII, so that a text may be cut behind them.
use Rattle.std.proofs.Common.{◌≡◌, ℕ, zero, suc, ◌+◌, ◌<◌, Bool, true, false, cond, List, [], ◌∷◌, take, refl, arith}
use Rattle.std.specs.List.{prefix_len, list_all}
use Rattle.std.specs.Char.{is_ascii_digit}
use Rattle.std.specs.Str.{IsAscii, IsUtf8, IsCharBoundary}
use Rattle.std.proofs.lemmas.Bool.Decides.{nat_tests}
use Rattle.std.proofs.lemmas.List.Sums.{prefix_len-le-length}
use Rattle.std.proofs.lemmas.Str.{IsUtf8-from_ascii, IsCharBoundary-from_take}
use Rattle.qbs_base.specs.Bytes.{is_name_part}
use Rattle.sql_ast.specs.Tokens.{is_number}

nil_is_ascii : IsAscii []
nil_is_ascii i = omega arith

cons_is_ascii : (b : ℕ) (bs : List ℕ) → b < 128 → IsAscii bs → IsAscii (b ∷ bs)
cons_is_ascii b bs h r zero = h
cons_is_ascii b bs h r (suc i) = r i

one_more : (n : ℕ) → 1 + n ≡ suc n
one_more n = omega arith

-- the bytes of a front that passes a test of ASCII bytes
front_is_ascii : (p : ℕ → Bool) → ((b : ℕ) → p b ≡ true → b < 128) → (bs : List ℕ) → IsAscii (take (prefix_len p bs) bs)
front_is_ascii p h [] = nil_is_ascii
front_is_ascii p h (b ∷ bs) = by (p b) refl (front_is_ascii p h bs)
  where
    by : (v : Bool) → p b ≡ v → IsAscii (take (prefix_len p bs) bs) → IsAscii (take (cond v (1 + prefix_len p bs) 0) (b ∷ bs))
    by true e r = rw (one_more (prefix_len p bs)) (cons_is_ascii b (take (prefix_len p bs) bs) (h b e) r)
    by false e r = nil_is_ascii

name_byte : (b : ℕ) → is_name_part b ≡ true → b < 128
name_byte b h = grind (arith, nat_tests, h)

digit_byte : (b : ℕ) → is_ascii_digit b ≡ true → b < 128
digit_byte b h = grind (arith, nat_tests, h)

boundary : (p : ℕ → Bool) → ((b : ℕ) → p b ≡ true → b < 128) → (bs : List ℕ) → IsUtf8 bs → IsCharBoundary bs (prefix_len p bs)
boundary p h bs u = IsCharBoundary-from_take bs (prefix_len p bs) u (prefix_len-le-length p bs) (IsUtf8-from_ascii (take (prefix_len p bs) bs) (front_is_ascii p h bs))

pub name_boundary : (bs : List ℕ) → IsUtf8 bs → IsCharBoundary bs (prefix_len is_name_part bs)
name_boundary bs u = boundary is_name_part name_byte bs u

pub digits_boundary : (bs : List ℕ) → IsUtf8 bs → IsCharBoundary bs (prefix_len is_ascii_digit bs)
digits_boundary bs u = boundary is_ascii_digit digit_byte bs u

front_passes : (p : ℕ → Bool) (bs : List ℕ) → list_all p (take (prefix_len p bs) bs) ≡ true
front_passes p [] = refl
front_passes p (b ∷ bs) = by (p b) refl (front_passes p bs)
  where
    by : (v : Bool) → p b ≡ v → list_all p (take (prefix_len p bs) bs) ≡ true → list_all p (take (cond v (1 + prefix_len p bs) 0) (b ∷ bs)) ≡ true
    by true e r = rw (one_more (prefix_len p bs), e, r) refl
    by false e r = refl

pub digits_are_number : (b : ℕ) (bs : List ℕ) → is_ascii_digit b ≡ true → is_number (b ∷ take (prefix_len is_ascii_digit bs) bs) ≡ true
digits_are_number b bs h = rw (h, front_passes is_ascii_digit bs) refl

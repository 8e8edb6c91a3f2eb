-- Names, digits and signs are ASCII.
use Rattle.std.proofs.Common.{◌≡◌, ℕ, zero, suc, ◌+◌, ◌<◌, Bool, true, false, cond, List, [], ◌∷◌, take, refl, arith}
use Rattle.std.specs.List.{prefix_len}
use Rattle.std.specs.Str.{IsAscii}
use Rattle.std.proofs.lemmas.Bool.Decides.{nat_tests}
use Rattle.std.proofs.lemmas.Str.{IsUtf8-from_ascii}
use Rattle.java_lex.specs.Bytes.{is_sign, is_long_sign}
use Rattle.qbs_base.specs.Bytes.{is_digit, is_name_part}
use Rattle.java_lex.specs.Pieces.{sign_len}

pub one_more : (n : ℕ) → 1 + n ≡ suc n
one_more n = omega arith

pub nil_is_ascii : IsAscii []
nil_is_ascii i = omega arith

pub cons_is_ascii : (b : ℕ) (bs : List ℕ) → b < 128 → IsAscii bs → IsAscii (b ∷ bs)
cons_is_ascii b bs h r zero = h
cons_is_ascii b bs h r (suc i) = r i

-- the bytes of a front that passes a test of ASCII bytes
pub front_is_ascii : (p : ℕ → Bool) → ((b : ℕ) → p b ≡ true → b < 128) → (bs : List ℕ) → IsAscii (take (prefix_len p bs) bs)
front_is_ascii p h [] = nil_is_ascii
front_is_ascii p h (b ∷ bs) = by (p b) refl (front_is_ascii p h bs)
  where
    by : (v : Bool) → p b ≡ v → IsAscii (take (prefix_len p bs) bs) → IsAscii (take (cond v (1 + prefix_len p bs) 0) (b ∷ bs))
    by true e r = rw (one_more (prefix_len p bs)) (cons_is_ascii b (take (prefix_len p bs) bs) (h b e) r)
    by false e r = nil_is_ascii

pub name_byte : (b : ℕ) → is_name_part b ≡ true → b < 128
name_byte b h = grind (arith, nat_tests, h)

pub digit_byte : (b : ℕ) → is_digit b ≡ true → b < 128
digit_byte b h = grind (arith, nat_tests, h)

pub sign_byte : (b : ℕ) → is_sign b ≡ true → b < 128
sign_byte b h = grind (arith, nat_tests, h)

pub long_sign_bytes : (b c : ℕ) → is_long_sign b c ≡ true → (b < 128) × (c < 128)
long_sign_bytes b c h = grind (arith, nat_tests, h)

pub name_is_ascii : (bs : List ℕ) → IsAscii (take (prefix_len is_name_part bs) bs)
name_is_ascii bs = front_is_ascii is_name_part name_byte bs

pub digits_are_ascii : (bs : List ℕ) → IsAscii (take (prefix_len is_digit bs) bs)
digits_are_ascii bs = front_is_ascii is_digit digit_byte bs

pub sign_is_ascii : (bs : List ℕ) → IsAscii (take (sign_len bs) bs)
sign_is_ascii [] = nil_is_ascii
sign_is_ascii (b ∷ []) = one (is_sign b) refl
  where
    one : (v : Bool) → is_sign b ≡ v → IsAscii (take (cond v 1 0) (b ∷ []))
    one true e = cons_is_ascii b [] (sign_byte b e) nil_is_ascii
    one false e = nil_is_ascii
sign_is_ascii (b ∷ c ∷ cs) = two (is_long_sign b c) (is_sign b) refl refl
  where
    two : (v w : Bool) → is_long_sign b c ≡ v → is_sign b ≡ w → IsAscii (take (cond v 2 (cond w 1 0)) (b ∷ c ∷ cs))
    two true w e f = cons_is_ascii b (c ∷ []) (long_sign_bytes b c e).0 (cons_is_ascii c [] (long_sign_bytes b c e).1 nil_is_ascii)
    two false true e f = cons_is_ascii b [] (sign_byte b f) nil_is_ascii
    two false false e f = nil_is_ascii

pub ruleset ascii_text = (IsUtf8-from_ascii)

-- Literals that the base language has too, with the type that Java gives them.
use Rattle.std.specs.Prelude.{ℕ, List, [], ◌∷◌, Bool, true, false, ◌&&◌, ◌||◌, not, ◌==◌, nat_lt, nat_eq, length, ◌-◌, take, slice_get, codes, Option, Some, None, is_some, if◌then◌else◌}
use Rattle.std.specs.List.{list_all}
use Rattle.std.specs.Str.{bytes_eq}
use Rattle.qbs_base.specs.Bytes.{is_digit}
use Rattle.view_map.specs.declared.model.Literal.{Literal}
use Rattle.view_map.specs.declared.model.ScalarKind.{ScalarKind}
use Rattle.view_map.specs.declared.model.ScalarKind.TheVariants as kinds

-- ---- Texts

-- the letters of the escapes \" \\ \' \n \r \t
abbrev pub is_escape : ℕ → Bool
is_escape b = (b == 34) || (b == 92) || (b == 39) || (b == 110) || (b == 114) || (b == 116)

-- a byte that stands for itself: no quote, no backslash, no end of a line
abbrev pub is_plain_byte : ℕ → Bool
is_plain_byte b = not ((b == 34) || (b == 92) || (b == 10) || (b == 13))

-- what is left of a text literal from a byte on ends with a quote, the first one that is no escape's
abbrev pub is_text_rest : List ℕ → Bool
is_text_rest [] = false
is_text_rest (b ∷ []) = b == 34
is_text_rest (b ∷ c ∷ bs) = if b == 92 then is_escape c && is_text_rest bs else (is_plain_byte b && is_text_rest (c ∷ bs))

abbrev pub is_text : List ℕ → Bool
is_text [] = false
is_text (b ∷ bs) = (b == 34) && is_text_rest bs

-- ---- Numbers

abbrev pub has_no_zero_before : List ℕ → Bool
has_no_zero_before [] = false
has_no_zero_before (b ∷ []) = true
has_no_zero_before (b ∷ c ∷ bs) = not (b == 48)

abbrev pub are_digits : List ℕ → Bool
are_digits bs = list_all is_digit bs

-- digits, the first of which is no zero where there are more
abbrev pub is_decimal : List ℕ → Bool
is_decimal bs = has_no_zero_before bs && are_digits bs

-- digits are not above others of the same length
abbrev pub is_up_to : List ℕ → List ℕ → Bool
is_up_to [] _ = true
is_up_to (b ∷ bs) [] = false
is_up_to (b ∷ bs) (c ∷ cs) = nat_lt b c || (nat_eq b c && is_up_to bs cs)

-- a decimal number is at most another one: fewer digits, or as many that are not above
abbrev pub is_at_most : List ℕ → List ℕ → Bool
is_at_most digits most = nat_lt (length digits) (length most) || (nat_eq (length digits) (length most) && is_up_to digits most)

-- the largest `int`, the one behind it, whose negative is an `int`, and the largest `long`
abbrev pub largest_int : Bool → List ℕ
largest_int false = codes "2147483647"
largest_int true = codes "2147483648"

abbrev pub largest_long : List ℕ
largest_long = codes "9223372036854775807"

abbrev pub is_mark : Option ℕ → Bool
is_mark (Some b) = b == 76
is_mark None = false

-- the last byte is an `L`
abbrev pub is_marked : List ℕ → Bool
is_marked bs = is_mark (slice_get bs (length bs - 1))

abbrev pub int_kind : Bool → List ℕ → Option ScalarKind
int_kind negative digits = if is_decimal digits && is_at_most digits (largest_int negative) then Some kinds.Int else None

abbrev pub long_kind : List ℕ → Option ScalarKind
long_kind digits = if is_decimal digits && is_at_most digits largest_long then Some kinds.Long else None

-- A number by its digits, `-` before it or not: a `long` with an `L`, else an `int`. Both stand for the same value in either language where
-- they are within Java's type.
abbrev pub number_kind : Bool → List ℕ → Option ScalarKind
number_kind negative bs = if is_marked bs then long_kind (take (length bs - 1) bs) else int_kind negative bs

-- ---- Any literal

abbrev pub literal_kind : List ℕ → Option ScalarKind
literal_kind bs =
    if bytes_eq bs (codes "true") || bytes_eq bs (codes "false") then Some kinds.Boolean
    else (if is_text bs then Some kinds.Text else number_kind false bs)

-- with a minus sign before it, which numbers alone have
abbrev pub signed_kind : Bool → List ℕ → Option ScalarKind
signed_kind true bs = number_kind true bs
signed_kind false bs = literal_kind bs

-- the value of a constant is a literal of both languages
abbrev pub is_value : Literal → Bool
is_value l = is_some (signed_kind l.negative l.bytes)

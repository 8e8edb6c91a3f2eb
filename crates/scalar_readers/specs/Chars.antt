-- Characters of a text in quotes, read from left to right.
use Rattle.std.specs.Prelude.{ℕ, ◌+◌, ◌-◌, ◌*◌, Bool, ◌&&◌, ◌||◌, not, nat_eq, nat_lt, List, Option, Some, None, if◌then◌else◌}
use Rattle.std.specs.Char.{encode_utf8}
use Rattle.std.specs.List.{flat_map}
use Rattle.std.specs.Str.{encode_utf8_all}
use Rattle.std.specs.Str.Lossy.{second_byte_min, second_byte_max}
use Rattle.readers.specs.Reading.{token_at, both, made, either, many}
use Rattle.qbs_base.specs.Literal.{escaped}
use Rattle.text_readers.specs.Bytes.{Reader, byte_at}
use Rattle.scalar_readers.specs.Choices.{and_then, between}

-- a character as it is written in quotes
abbrev pub char_text : ℕ → List ℕ
char_text c = flat_map escaped (encode_utf8 c)

-- ---- escapes

-- what stands behind a backslash, and what it stands for
abbrev pub unescaped : ℕ → Option ℕ
unescaped b =
    if nat_eq b 34 then Some 34
    else (if nat_eq b 92 then Some 92
    else (if nat_eq b 110 then Some 10
    else (if nat_eq b 114 then Some 13
    else (if nat_eq b 116 then Some 9
    else None))))

unfoldable pub escape_at : Reader ℕ
escape_at ts = made (λ x. x.1) (both (byte_at 92) (token_at unescaped)) ts

-- ---- characters of one byte

abbrev pub is_escaped : ℕ → Bool
is_escaped b = nat_eq b 34 || (nat_eq b 92 || (nat_eq b 10 || (nat_eq b 13 || nat_eq b 9)))

abbrev pub plain : ℕ → Option ℕ
plain b = if nat_lt b 128 && not (is_escaped b) then Some b else None

unfoldable pub plain_at : Reader ℕ
plain_at ts = token_at plain ts

-- ---- characters of two, three and four bytes, by the ranges of well-formed sequences of Unicode

unfoldable pub further_at : Reader ℕ
further_at ts = token_at (between 128 191) ts

-- the second byte, behind this first one
unfoldable pub second_at : ℕ → Reader ℕ
second_at first ts = token_at (between (second_byte_min first) (second_byte_max first)) ts

abbrev pub two_of : ℕ × ℕ → ℕ
two_of x = (x.0 - 192) * 64 + (x.1 - 128)

unfoldable pub two_at : Reader ℕ
two_at ts = made two_of (both (token_at (between 194 223)) further_at) ts

abbrev pub three_of : ℕ × (ℕ × ℕ) → ℕ
three_of x = (x.0 - 224) * 4096 + ((x.1.0 - 128) * 64 + (x.1.1 - 128))

unfoldable pub three_at : Reader ℕ
three_at ts = made three_of (and_then (token_at (between 224 239)) (λ first. both (second_at first) further_at)) ts

abbrev pub four_of : ℕ × (ℕ × (ℕ × ℕ)) → ℕ
four_of x = (x.0 - 240) * 262144 + ((x.1.0 - 128) * 4096 + ((x.1.1.0 - 128) * 64 + (x.1.1.1 - 128)))

unfoldable pub four_at : Reader ℕ
four_at ts = made four_of (and_then (token_at (between 240 244)) (λ first. both (second_at first) (both further_at further_at))) ts

-- ---- a character, by its first byte

abbrev pub is_backslash : ℕ → Bool
is_backslash b = nat_eq b 92

abbrev pub is_below : ℕ → ℕ → Bool
is_below limit b = nat_lt b limit

unfoldable pub char_at : Reader ℕ
char_at ts = either is_backslash escape_at (either (is_below 128) plain_at (either (is_below 224) two_at (either (is_below 240) three_at four_at))) ts

-- ---- a text in quotes

abbrev pub is_quote : ℕ → Bool
is_quote b = nat_eq b 34

-- the bytes of characters up to a quote
unfoldable pub chars_at : Reader (List ℕ)
chars_at ts = made encode_utf8_all (many is_quote char_at) ts

unfoldable pub text_at : Reader (List ℕ)
text_at ts = made (λ x. x.1.0) (both (byte_at 34) (both chars_at (byte_at 34))) ts

-- What stands at the front of bytes: white space, a comment or a token, by cases on the bytes.
use Rattle.std.specs.Prelude.{ℕ, zero, suc, pred, ◌+◌, ◌^◌, List, [], ◌∷◌, ◌++◌, length, take, drop, Bool, false, ◌==◌, ◌&&◌, nat_lt, Option, Some, None, option_map, ℤ, pos, if◌then◌else◌}
use Rattle.std.specs.List.{prefix_len}
use Rattle.std.specs.Str.Lossy.{utf8_valid_len}
use Rattle.std.specs.Str.Parse.{digits_value}
use Rattle.java_lex.specs.declared.piece.Piece.{Piece}
use Rattle.java_lex.specs.declared.piece.Piece.TheVariants.{Gap, Token, Fault}
use Rattle.java_lex.specs.declared.token.LexRule.TheVariants.{BadByte, OpenText, OpenComment, LongTooLarge}
use Rattle.java_lex.specs.declared.token.TokenNode.TheVariants.{Word, Integer, Text, Sign}
use Rattle.java_lex.specs.Bytes.{quote, backslash, slash, star, zero_digit, long_mark, is_in_line, ends_line, is_plain, escape_of, is_sign, is_long_sign, begins_with}
use Rattle.qbs_base.specs.Bytes.{is_white, is_digit, is_name_start, is_name_part}

-- ---- comments

-- The piece, if what stands behind the two bytes that begin the comment is UTF-8. Else the first byte that begins no
-- character is wrong.
abbrev pub checked : List ℕ → Piece → Piece
checked text piece = if utf8_valid_len text == length text then piece else Fault BadByte (2 + utf8_valid_len text)

-- behind `//`: up to the end of the line
abbrev pub line_comment : List ℕ → Piece
line_comment bs = checked (take (prefix_len is_in_line bs) bs) (Gap (2 + prefix_len is_in_line bs))

-- how many bytes stand before the first `*/`
abbrev pub comment_len : List ℕ → Option ℕ
comment_len [] = None
comment_len (b ∷ bs) = if (b == star) && begins_with slash bs then Some 0 else option_map suc (comment_len bs)

abbrev pub comment_up_to : List ℕ → Option ℕ → Piece
comment_up_to bs None = checked bs (Fault OpenComment 0)
comment_up_to bs (Some n) = checked (take n bs) (Gap (2 + n + 2))

-- behind `/*`
abbrev pub block_comment : List ℕ → Piece
block_comment bs = comment_up_to bs (comment_len bs)

-- ---- text literals

-- what stands behind the opening quote of a text literal
pub data Part : Type 0 where
  -- the closing quote
  close : Part
  -- the end of the line or of the text
  line_end : Part
  -- an escape for this byte
  escape : ℕ → Part
  -- these bytes, which stand for themselves
  plain : List ℕ → Part
  -- after so many bytes, one that may not stand there
  wrong : ℕ → Part

-- a run of bytes that stand for themselves, if it is UTF-8
abbrev pub plain_part : List ℕ → Part
plain_part text = if utf8_valid_len text == length text then plain text else wrong (utf8_valid_len text)

abbrev pub escape_part : Option ℕ → Part
escape_part None = wrong 0
escape_part (Some b) = escape b

-- behind a backslash
abbrev pub escaped : List ℕ → Part
escaped [] = line_end
escaped (b ∷ bs) = escape_part (escape_of b)

unfoldable pub part_of : List ℕ → Part
part_of [] = line_end
part_of (b ∷ bs) =
    if b == quote then close
    else (if ends_line b then line_end
    else (if b == backslash then escaped bs
    else plain_part (take (prefix_len is_plain (b ∷ bs)) (b ∷ bs))))

-- some bytes of a text literal and all that stands behind them
pub data Body : Type 0 where
  -- they stand for this text, and are so many with the closing quote
  closed : List ℕ → ℕ → Body
  -- the line or the text ends first
  unclosed : Body
  -- the byte after so many may not stand there
  bad : ℕ → Body

-- the same behind n bytes that stand for front
abbrev pub behind : ℕ → List ℕ → Body → Body
behind n front (closed text m) = closed (front ++ text) (n + m)
behind n front unclosed = unclosed
behind n front (bad m) = bad (n + m)

-- a part, where rest n is what stands behind the next n bytes
abbrev pub body_by : Part → (ℕ → Body) → Body
body_by close rest = closed [] 1
body_by line_end rest = unclosed
body_by (escape b) rest = behind 2 (b ∷ []) (rest 2)
body_by (plain text) rest = behind (length text) text (rest (length text))
body_by (wrong n) rest = bad n

-- behind an opening quote, after so many bytes of a part before
unfoldable pub body_from : ℕ → List ℕ → Body
body_from skip [] = unclosed
body_from (suc skip) (b ∷ bs) = body_from skip bs
body_from zero (b ∷ bs) = body_by (part_of (b ∷ bs)) (λ n. body_from (pred n) bs)

-- a literal that is never closed is reported at its opening quote
abbrev pub literal_of : Body → Piece
literal_of (closed text n) = Token (Text text) n
literal_of unclosed = Fault OpenText 0
literal_of (bad n) = Fault BadByte n

-- the opening quote stands for nothing
abbrev pub literal_behind : List ℕ → Piece
literal_behind bs = literal_of (behind 1 [] (body_from 0 bs))

-- ---- names, integers, signs

abbrev pub name_at : List ℕ → Piece
name_at bs = Token (Word (take (prefix_len is_name_part bs) bs)) (prefix_len is_name_part bs)

-- a zero stands alone
abbrev pub digits_len : List ℕ → ℕ
digits_len bs = if begins_with zero_digit bs then 1 else prefix_len is_digit bs

-- the number that the digits write, below 2 ^ 63
abbrev pub number_of : List ℕ → Option ℤ
number_of digits = if nat_lt (digits_value 10 digits) (2 ^ 63) then Some (pos (digits_value 10 digits)) else None

-- n digits of this value, and whether an `L` follows them
abbrev pub integer_of : ℕ → Option ℤ → Bool → Piece
integer_of n None long = Fault LongTooLarge 0
integer_of n (Some value) long = Token (Integer value long) (n + (if long then 1 else 0))

abbrev pub integer_at : List ℕ → Piece
integer_at bs = integer_of (digits_len bs) (number_of (take (digits_len bs) bs)) (begins_with long_mark (drop (digits_len bs) bs))

abbrev pub begins_long_sign : ℕ → List ℕ → Bool
begins_long_sign b [] = false
begins_long_sign b (c ∷ cs) = is_long_sign b c

-- how long the longest sign is
abbrev pub sign_len : List ℕ → ℕ
sign_len [] = 0
sign_len (b ∷ bs) = if begins_long_sign b bs then 2 else (if is_sign b then 1 else 0)

abbrev pub sign_of : ℕ → List ℕ → Piece
sign_of zero bs = Fault BadByte 0
sign_of (suc n) bs = Token (Sign (take (suc n) bs)) (suc n)

abbrev pub sign_at : List ℕ → Piece
sign_at bs = sign_of (sign_len bs) bs

-- ---- any piece

-- a comment or a sign
abbrev pub slashed : List ℕ → Piece
slashed [] = sign_at []
slashed (b ∷ bs) =
    if (b == slash) && begins_with slash bs then line_comment (drop 1 bs)
    else (if (b == slash) && begins_with star bs then block_comment (drop 1 bs)
    else sign_at (b ∷ bs))

-- nothing stands at the end of the text
unfoldable pub piece_of : List ℕ → Piece
piece_of [] = Gap 0
piece_of (b ∷ bs) =
    if is_white b then Gap 1
    else (if is_name_start b then name_at (b ∷ bs)
    else (if is_digit b then integer_at (b ∷ bs)
    else (if b == quote then literal_behind bs
    else slashed (b ∷ bs))))

-- What stands at the front of bytes, an item or a gap, and how many bytes it has.
use Rattle.std.specs.Prelude.{ℕ, ◌+◌, Bool, false, ◌||◌, ◌&&◌, ◌==◌, List, [], ◌∷◌, codes, not, if◌then◌else◌}
use Rattle.std.specs.List.{prefix_len, list_any}
use Rattle.std.specs.declared.option.Option.{Option}
use Rattle.std.specs.declared.option.Option.TheVariants.{Some, None}
use Rattle.qbs_base.specs.Bytes.{is_digit}
use Rattle.view_items.specs.declared.item.ItemKind.{ItemKind}
use Rattle.view_items.specs.declared.item.ItemKind.TheVariants as kinds
use Rattle.view_items.specs.declared.opened.Opened.TheVariants as opens
use Rattle.view_items.specs.Bytes.{is_space, ends_line, begins_name, is_in_name, is_in_number, is_plus_or_minus, begins_exponent}
use Rattle.view_items.specs.Opened.{begins_with, opened_len}

-- white space and comments are gaps
abbrev pub Piece : Type 0
Piece = Option ItemKind × ℕ

-- how many bytes there are up to the end of the line
abbrev pub line_len : List ℕ → ℕ
line_len bs = prefix_len (λ b. not (ends_line b)) bs

abbrev pub goes_on : Bool → ℕ → ℕ → Bool
goes_on hexadecimal before b = is_in_number b || (is_plus_or_minus b && begins_exponent hexadecimal before)

-- how many bytes a number goes on for behind the byte before
unfoldable pub number_len : Bool → ℕ → List ℕ → ℕ
number_len hexadecimal before [] = 0
number_len hexadecimal before (b ∷ bs) = if goes_on hexadecimal before b then 1 + number_len hexadecimal b bs else 0

-- `0x` or `0X`
abbrev pub is_hexadecimal : List ℕ → Bool
is_hexadecimal bs = begins_with bs (codes "0x") || begins_with bs (codes "0X")

-- `=` behind another sign, a sign written twice, or an arrow
abbrev pub is_pair : ℕ → ℕ → Bool
is_pair b c =
    ((c == 61) && list_any (λ x. x == b) (codes "=!<>+-*/%&|^"))
    || ((c == b) && list_any (λ x. x == b) (codes "&|+-:"))
    || ((b == 45) && (c == 62))

abbrev pub begins_with_pair : List ℕ → Bool
begins_with_pair (b ∷ c ∷ bs) = is_pair b c
begins_with_pair bs = false

-- the longest sign: `>>` is two, since it closes arguments of types
abbrev pub sign_len : List ℕ → ℕ
sign_len bs =
    if begins_with bs (codes ">>>=") then 4
    else (if begins_with bs (codes "<<=") || begins_with bs (codes ">>=") || begins_with bs (codes "...") then 3
    else (if begins_with_pair bs then 2 else 1))

abbrev pub sign_piece : List ℕ → Piece
sign_piece bs = (Some kinds.Sign, sign_len bs)

-- with so many bytes if it is closed, and another piece if it isn't
abbrev pub closed_piece : Option ItemKind → Option ℕ → Piece → Piece
closed_piece kind (Some n) other = (kind, n)
closed_piece kind None other = other

abbrev pub text_piece : List ℕ → Piece
text_piece bs = closed_piece (Some kinds.Text) (opened_len opens.Text bs) (sign_piece bs)

abbrev pub block_piece : List ℕ → Piece
block_piece bs = closed_piece (Some kinds.Block) (opened_len opens.Block bs) (text_piece bs)

-- what begins with neither white space nor a letter nor a digit; an open mark is a sign
abbrev pub mark_piece : List ℕ → Piece
mark_piece bs =
    if begins_with bs (codes "//") then (None, line_len bs)
    else (if begins_with bs (codes "/*") then closed_piece None (opened_len opens.Comment bs) (sign_piece bs)
    else (if begins_with bs (codes "\"\"\"") then block_piece bs
    else (if begins_with bs (codes "\"") then text_piece bs
    else (if begins_with bs (codes "'") then closed_piece (Some kinds.Char) (opened_len opens.Char bs) (sign_piece bs)
    else sign_piece bs))))

abbrev pub piece_from : ℕ → List ℕ → Piece
piece_from b bs =
    if is_space b then (None, 1)
    else (if begins_name b then (Some kinds.Name, prefix_len is_in_name (b ∷ bs))
    else (if is_digit b then (Some kinds.Number, 1 + number_len (is_hexadecimal (b ∷ bs)) b bs)
    else mark_piece (b ∷ bs)))

unfoldable pub piece_of : List ℕ → Piece
piece_of [] = (None, 0)
piece_of (b ∷ bs) = piece_from b bs

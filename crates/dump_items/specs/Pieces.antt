-- What stands at the front of bytes, an item or a gap, and how many bytes it has.
use Rattle.std.specs.Prelude.{ℕ, zero, suc, pred, ◌+◌, Bool, false, ◌&&◌, ◌||◌, ◌==◌, List, [], ◌∷◌, ◌++◌, take, drop, codes, if◌then◌else◌}
use Rattle.std.specs.List.{prefix_len, list_any}
use Rattle.std.specs.declared.option.Option.{Option}
use Rattle.std.specs.declared.option.Option.TheVariants.{Some, None}
use Rattle.qbs_base.specs.Bytes.{is_white, is_name_part}
use Rattle.dump_items.specs.declared.item.ItemKind.{ItemKind}
use Rattle.dump_items.specs.declared.item.ItemKind.TheVariants as kinds
use Rattle.dump_items.specs.declared.item.Item.{Item}
use Rattle.dump_items.specs.declared.scan.Until.TheVariants.{Quote, Star, Data}
use Rattle.dump_items.specs.Bytes.{begins_word, is_in_word, is_in_line, spells, begins_with, is_line_over}
use Rattle.dump_items.specs.Scan.{scan_len, tag_end}

abbrev pub Piece : Type 0
Piece = Option ItemKind × ℕ

-- a delimiter is a mark behind one space
abbrev pub is_mark : ℕ → Bool
is_mark b = (b == 59) || (b == 47) || (b == 36) || (b == 124)

abbrev pub begins_delimiter : List ℕ → Bool
begins_delimiter (s ∷ b ∷ bs) = (s == 32) && is_mark b
begins_delimiter bs = false

-- a word of n bytes, before the rest: data of a COPY stand behind `stdin;`
abbrev pub word_piece : ℕ → List ℕ → Piece
word_piece n bs =
    if spells (codes "STDIN") (take n bs) && begins_with 59 (drop n bs) then (Some kinds.End, n + scan_len Data 0 (drop n bs))
    else (if spells (codes "DELIMITER") (take n bs) && begins_delimiter (drop n bs) then (Some kinds.End, n + prefix_len is_in_line (drop n bs))
    else (Some kinds.Word, n))

abbrev pub quoted_piece : ItemKind → ℕ → Bool → List ℕ → Piece
quoted_piece kind close escapes bs = (Some kind, 1 + scan_len (Quote close escapes) 0 bs)

-- a dollar, a tag of n bytes and a dollar, or the first dollar alone
abbrev pub dollar_piece : ℕ → List ℕ → Piece
dollar_piece n bs =
    if begins_with 36 (drop (n + 1) bs) then (Some kinds.Text, n + 2 + tag_end (take (n + 2) bs) (drop (n + 2) bs)) else (Some kinds.Other, 1)

-- a comment, a slash that is the last of its line, or a byte
abbrev pub slash_piece : List ℕ → Piece
slash_piece bs =
    if begins_with 42 bs then (None, 1 + scan_len Star 0 bs)
    else (if is_line_over bs then (Some kinds.End, 1) else (Some kinds.Other, 1))

abbrev pub dash_piece : List ℕ → Piece
dash_piece bs = if begins_with 45 bs then (None, 1 + prefix_len is_in_line bs) else (Some kinds.Other, 1)

abbrev pub sign_piece : ℕ → Piece
sign_piece b =
    if b == 40 then (Some kinds.Open, 1)
    else (if b == 41 then (Some kinds.Close, 1)
    else (if b == 44 then (Some kinds.Comma, 1)
    else (if b == 46 then (Some kinds.Dot, 1)
    else (if b == 59 then (Some kinds.End, 1) else (Some kinds.Other, 1)))))

-- a line that begins with a backslash is one of psql's
abbrev pub mark_piece : Bool → ℕ → List ℕ → Piece
mark_piece escapes b bs =
    if b == 39 then quoted_piece kinds.Text 39 escapes bs
    else (if b == 34 then quoted_piece kinds.Quoted 34 escapes bs
    else (if b == 96 then quoted_piece kinds.Quoted 96 false bs
    else (if b == 91 then quoted_piece kinds.Quoted 93 false bs
    else (if b == 36 then dollar_piece (prefix_len is_name_part bs) (b ∷ bs)
    else (if b == 47 then slash_piece bs
    else (if b == 45 then dash_piece bs
    else (if b == 92 then (None, 1 + prefix_len is_in_line bs) else sign_piece b)))))))

abbrev pub piece_from : Bool → ℕ → List ℕ → Piece
piece_from escapes b bs =
    if is_white b then (None, 1)
    else (if begins_word b then word_piece (prefix_len is_in_word (b ∷ bs)) (b ∷ bs) else mark_piece escapes b bs)

unfoldable pub piece_of : Bool → List ℕ → Piece
piece_of escapes [] = (None, 0)
piece_of escapes (b ∷ bs) = piece_from escapes b bs

-- none for a gap
abbrev pub items : Option ItemKind → List ℕ → List Item
items None bs = []
items (Some kind) bs = record { kind = kind; bytes = bs } ∷ []

-- the items of bytes, after so many bytes that belong to the piece before
unfoldable pub items_from : Bool → ℕ → List ℕ → List Item
items_from escapes skip [] = []
items_from escapes (suc skip) (b ∷ bs) = items_from escapes skip bs
items_from escapes zero (b ∷ bs) =
    items (piece_of escapes (b ∷ bs)).0 (take (piece_of escapes (b ∷ bs)).1 (b ∷ bs)) ++ items_from escapes (pred (piece_of escapes (b ∷ bs)).1) bs

-- a dump that has backquotes is MySQL's, and a backslash takes the byte behind it with it in its texts
abbrev pub has_escapes : List ℕ → Bool
has_escapes text = list_any (λ b. b == 96) text

unfoldable pub items_of : List ℕ → List Item
items_of text = items_from (has_escapes text) 0 text

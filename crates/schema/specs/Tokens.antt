-- The tokens of a text, byte by byte. Every text has some: a byte that begins no token is one by itself.
use Rattle.std.specs.Prelude.{ℕ, zero, suc, pred, ◌+◌, List, [], ◌∷◌, ◌++◌, take, map, ◌==◌, ◌&&◌, if◌then◌else◌}
use Rattle.std.specs.declared.option.Option.{Option}
use Rattle.std.specs.declared.option.Option.TheVariants.{Some, None}
use Rattle.std.specs.List.{prefix_len}
use Rattle.qbs_base.specs.declared.span.Span.{Span}
use Rattle.qbs_base.specs.declared.place.Place.{Place}
use Rattle.schema.specs.declared.token.Kind.{Kind}
use Rattle.schema.specs.declared.token.Kind.TheVariants as kinds
use Rattle.schema.specs.declared.token.Sign.TheVariants.{Open, Close, Comma, Semicolon}
use Rattle.schema.specs.declared.token.Token.{Token}
use Rattle.qbs_base.specs.Places.{first_place, next_place, place_after, between}
use Rattle.schema.specs.Bytes.{is_in_line, begins_with}
use Rattle.qbs_base.specs.Bytes.{is_white, is_digit, is_name_start, is_name_part}

-- what stands at the front, a token or a gap, and how many bytes it has
abbrev pub Piece : Type 0
Piece = Option Kind × ℕ

-- a comment goes from `--` up to a line feed or the end of the text
abbrev pub sign_of : ℕ → List ℕ → Piece
sign_of b bs =
    if b == 40 then (Some (kinds.Sign Open), 1)
    else (if b == 41 then (Some (kinds.Sign Close), 1)
    else (if b == 44 then (Some (kinds.Sign Comma), 1)
    else (if b == 59 then (Some (kinds.Sign Semicolon), 1)
    else (if (b == 45) && begins_with 45 bs then (None, 1 + prefix_len is_in_line bs)
    else (Some kinds.Stray, 1)))))

-- words and digits are as long as they can be
abbrev pub piece_from : ℕ → List ℕ → Piece
piece_from b bs =
    if is_white b then (None, 1)
    else (if is_name_start b then (Some (kinds.Word (take (prefix_len is_name_part (b ∷ bs)) (b ∷ bs))), prefix_len is_name_part (b ∷ bs))
    else (if is_digit b then (Some kinds.Digits, prefix_len is_digit (b ∷ bs))
    else sign_of b bs))

unfoldable pub piece_of : List ℕ → Piece
piece_of [] = (None, 0)
piece_of (b ∷ bs) = piece_from b bs

-- none for a gap
abbrev pub placed : Span → Option Kind → List Token
placed at None = []
placed at (Some kind) = record { kind = kind; at = at } ∷ []

-- the tokens of the bytes from this place on, after so many bytes that belong to the piece before
unfoldable pub tokens_from : Place → ℕ → List ℕ → List Token
tokens_from p skip [] = []
tokens_from p (suc skip) (b ∷ bs) = tokens_from (next_place p b) skip bs
tokens_from p zero (b ∷ bs) =
    placed (between p (place_after p (take (piece_of (b ∷ bs)).1 (b ∷ bs)))) (piece_of (b ∷ bs)).0 ++ tokens_from (next_place p b) (pred (piece_of (b ∷ bs)).1) bs

abbrev pub tokens_of : List ℕ → List Token
tokens_of text = tokens_from first_place 0 text

-- the tokens without their places
abbrev pub kinds_of : List Token → List Kind
kinds_of ts = map (λ t. t.kind) ts

-- the empty stretch behind the last byte
abbrev pub end_of : List ℕ → Span
end_of text = between (place_after first_place text) (place_after first_place text)

-- The tokens of a text, with their places, or its first fault.
use Rattle.std.specs.Prelude.{ℕ, zero, suc, pred, List, [], ◌∷◌, take, Result, Ok, Err}
use Rattle.qbs_base.specs.declared.place.Place.{Place}
use Rattle.java_lex.specs.declared.piece.Piece.{Piece}
use Rattle.java_lex.specs.declared.piece.Piece.TheVariants as pieces
use Rattle.java_lex.specs.declared.token.LexFault.{LexFault}
use Rattle.java_lex.specs.declared.token.LexRule.{LexRule}
use Rattle.java_lex.specs.declared.token.Token.{Token}
use Rattle.java_lex.specs.declared.token.TokenNode.{TokenNode}
use Rattle.java_lex.specs.declared.token.Tokens.{Tokens}
use Rattle.qbs_base.specs.Places.{next_place, place_after, first_place, between, byte_at}
use Rattle.java_lex.specs.Pieces.{piece_of}

-- a fault stands at one byte
abbrev pub fault_at : LexRule → Place → LexFault
fault_at rule p = record { rule = rule; at = byte_at p }

-- the token of the first n bytes from this place on
abbrev pub token_at : Place → ℕ → List ℕ → TokenNode → Token
token_at p n bs node = record { span = between p (place_after p (take n bs)); node = node }

-- a token, and then those
abbrev pub with_token : Token → Result (List Token) LexFault → Result (List Token) LexFault
with_token t (Ok ts) = Ok (t ∷ ts)
with_token t (Err e) = Err e

-- what a piece at this place adds, where rest n are the tokens behind the next n bytes
abbrev pub tokens_by : Piece → Place → List ℕ → (ℕ → Result (List Token) LexFault) → Result (List Token) LexFault
tokens_by (pieces.Gap n) p bs rest = rest n
tokens_by (pieces.Token node n) p bs rest = with_token (token_at p n bs node) (rest n)
tokens_by (pieces.Fault rule n) p bs rest = Err (fault_at rule (place_after p (take n bs)))

-- the tokens of the bytes from this place on, after so many bytes of a piece before
unfoldable pub tokens_from : Place → ℕ → List ℕ → Result (List Token) LexFault
tokens_from p skip [] = Ok []
tokens_from p (suc skip) (b ∷ bs) = tokens_from (next_place p b) skip bs
tokens_from p zero (b ∷ bs) = tokens_by (piece_of (b ∷ bs)) p (b ∷ bs) (λ n. tokens_from (next_place p b) (pred n) bs)

-- with the empty span at the end of the text
abbrev pub ended : List ℕ → Result (List Token) LexFault → Result Tokens LexFault
ended text (Ok ts) = Ok (record { list = ts; end = between (place_after first_place text) (place_after first_place text) })
ended text (Err e) = Err e

-- the tokens that the bytes of a text have, or the first fault of a text that has none
abbrev pub lexed : List ℕ → Result Tokens LexFault
lexed text = ended text (tokens_from first_place 0 text)

-- How many bytes a piece has, and that the bytes have them.
use Rattle.std.specs.Prelude.{ℕ, ◌<◌, ◌≤◌, length}
use Rattle.java_lex.specs.declared.piece.Piece.{Piece}
use Rattle.java_lex.specs.declared.piece.Piece.TheVariants.{Gap, Token, Fault}
use Rattle.java_lex.specs.Pieces.{Part, close, line_end, escape, plain, wrong}

-- of a fault, those before the byte that breaks the rule
abbrev pub piece_len : Piece → ℕ
piece_len (Gap n) = n
piece_len (Token node n) = n
piece_len (Fault rule n) = n

-- a gap or a token has a byte at least, and a fault stands at a byte
abbrev pub FitsIn : ℕ → Piece → Type 0
FitsIn room (Gap n) = (0 < n) × (n ≤ room)
FitsIn room (Token node n) = (0 < n) × (n ≤ room)
FitsIn room (Fault rule n) = n < room

abbrev pub PartFits : ℕ → Part → Type 0
PartFits room close = 1 ≤ room
PartFits room line_end = Unit {0}
PartFits room (escape b) = (2 ≤ room) × (b < 128)
PartFits room (plain text) = (0 < length text) × (length text ≤ room)
PartFits room (wrong n) = n < room

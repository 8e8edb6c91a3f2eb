-- What one piece adds to the tokens so far.
use Rattle.std.specs.Prelude.{◌≡◌, List, [], ◌∷◌, ◌++◌, Result, Ok, Err}
use Rattle.qbs_base.specs.declared.place.Place.{Place}
use Rattle.java_lex.specs.declared.piece.Piece.{Piece}
use Rattle.java_lex.specs.declared.piece.Piece.TheVariants as pieces
use Rattle.java_lex.specs.declared.token.LexFault.{LexFault}
use Rattle.java_lex.specs.declared.token.Token.{Token}
use Rattle.qbs_base.specs.Places.{between}
use Rattle.java_lex.specs.Lexing.{fault_at}

-- the tokens of a piece that goes from one place to another, or its fault, which stands at its end
abbrev pub kept : Piece → Place → Place → Result (List Token) LexFault
kept (pieces.Gap n) p q = Ok []
kept (pieces.Token node n) p q = Ok (record { span = between p q; node = node } ∷ [])
kept (pieces.Fault rule n) p q = Err (fault_at rule q)

-- these were added, and there was no fault
abbrev pub Adds : Result (List Token) LexFault → List Token → List Token → Type 0
Adds (Ok front) old new = new ≡ old ++ front
Adds (Err e) old new = ⊥

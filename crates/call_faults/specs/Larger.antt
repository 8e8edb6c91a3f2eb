-- The grammar of programs with calls of their own methods, over marked tokens.
use Rattle.std.specs.Prelude.{List, [], ◌∷◌, ◌++◌, Bool, map}
use Rattle.java_lex.specs.declared.token.Token.{Token}
use Rattle.java_ast.specs.Tree.{PlainProgram}
use Rattle.java_grammar.specs.Marks.{Tok, tokens_of}
use Rattle.java_grammar.specs.Rules.{Rule}
use Rattle.java_grammar.specs.Grammar.{HasProgram}
use Rattle.call_reader.specs.SpelledOut.{Spot, Elsewhere, behind, in_place}

abbrev pub marked : Bool → Token → Tok
marked strict t = record { strict = strict; token = t }

-- the tokens in place of this one, which stands here, each with its mark
abbrev pub put : Spot → Tok → List Tok → List Tok
put spot t rest = map (marked t.strict) (in_place spot t.token (tokens_of rest))

abbrev pub spelled_from : Spot → List Tok → List Tok
spelled_from spot [] = []
spelled_from spot (t ∷ ts) = put spot t ts ++ spelled_from (behind spot t.token.node (tokens_of ts)) ts

-- marked tokens with calls spelled out, each with the mark of the one in whose place it stands
abbrev pub spelled : List Tok → List Tok
spelled ts = spelled_from Elsewhere ts

-- The tokens have this program, in which a call is a number query whose text is the method's name. The limits hold at the tokens that stand
-- in place of a strict one.
abbrev pub HasProgramWithCalls : Rule PlainProgram
HasProgramWithCalls ts p = HasProgram (spelled ts) p

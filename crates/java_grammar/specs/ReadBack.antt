-- What it is for a text to be read back as a program, but for places.
use Rattle.std.specs.Prelude.{◌≡◌, ℕ, List, Ok}
use Rattle.java_ast.specs.Tree.{PlainProgram}
use Rattle.java_lex.specs.declared.token.Token.{Token}
use Rattle.java_lex.specs.declared.token.Tokens.{Tokens}
use Rattle.java_lex.specs.Lexing.{lexed as lexed_as}
use Rattle.java_grammar.specs.Grammar.{IsProgram}
use Rattle.java_ast.specs.Unplaced.{unplaced_program}

-- the tokens have a program that is this one, but for places
pub record SameProgram (ts : List Token) (p : PlainProgram) : Type 0 where
  pub program : PlainProgram
  pub has : IsProgram ts program
  pub same : unplaced_program program ≡ unplaced_program p

-- and so has a text
pub record IsReadBack (text : List ℕ) (p : PlainProgram) : Type 0 where
  pub tokens : Tokens
  pub lexed : lexed_as text ≡ Ok tokens
  pub read : SameProgram tokens.list p

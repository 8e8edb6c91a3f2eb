-- The places of a program's statements.
use Rattle.std.specs.Prelude.{◌≡◌, ℕ, List}
use Rattle.std.specs.declared.option.Option.TheVariants.{Some}
use Rattle.java_lex.specs.declared.token.Token.{Token}
use Rattle.java_lex.specs.declared.token.Tokens.{Tokens}
use Rattle.java_lex.specs.Spans.{SamePlace, IsToken}
use Rattle.java_ast.specs.Tree.{Statement, PlainProgram}
use Rattle.java_ast.specs.Spans.{place_of}
use Rattle.java_ast.specs.Path.{statement_at}

-- a statement begins where one of these tokens does
pub record BeginsWithToken (tokens : Tokens) (s : Statement) : Type 0 where
  pub number : ℕ
  pub token : Token
  pub is : IsToken tokens number token
  pub same : SamePlace (place_of s) token.span
  pub start : (place_of s).start ≡ token.span.start

-- these paths lead to statements of the program at the same line and column
pub record LeadToOnePlace (p : PlainProgram) (a b : List ℕ) : Type 0 where
  pub first : Statement
  pub other : Statement
  pub to_first : statement_at a p ≡ Some first
  pub to_other : statement_at b p ≡ Some other
  pub same : SamePlace (place_of first) (place_of other)

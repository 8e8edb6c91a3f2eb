-- The bytes that a program was read from.
use Rattle.std.specs.Prelude.{◌≡◌, ℕ, List, Ok}
use Rattle.java_ast.specs.Tree.{PlainProgram}
use Rattle.java_lex.specs.Lexing.{lexed}
use Rattle.java_lex.specs.declared.token.Tokens.{Tokens}
use Rattle.java_grammar.specs.Grammar.{IsReadable}

-- the bytes are those of a source that has this program
pub record IsSourceOf (source : List ℕ) (p : PlainProgram) : Type 0 where
  pub tokens : Tokens
  pub lexed_as : lexed source ≡ Ok tokens
  pub reads : IsReadable tokens.list p

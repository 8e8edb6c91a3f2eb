-- The programs of texts, depth left aside.
use Rattle.std.specs.Prelude.{◌≡◌, ℕ, List, Ok}
use Rattle.java_ast.specs.Tree.{PlainProgram}
use Rattle.java_lex.specs.declared.token.Tokens.{Tokens}
use Rattle.java_lex.specs.Lexing.{lexed as lexed_as}
use Rattle.java_grammar.specs.Grammar.{IsProgram}

-- the tokens of the text have this program, places and all
pub record HasProgram (text : List ℕ) (p : PlainProgram) : Type 0 where
  pub tokens : Tokens
  pub lexed : lexed_as text ≡ Ok tokens
  pub has : IsProgram tokens.list p

-- the text has one program at most
abbrev pub HasOne : List ℕ → Type 0
HasOne text = (p q : PlainProgram) → HasProgram text p → HasProgram text q → p ≡ q

-- What programs take from the query language: which query a text has, and what a query answers.
use Rattle.std.specs.Prelude.{◌≡◌, ◌↔◌, ℕ, List}
use Rattle.std.specs.declared.option.Option.{Option}
use Rattle.std.specs.declared.option.Option.TheVariants.{Some}
use Rattle.qbs_base.specs.Values.{Schema}
use Rattle.sql_ast.specs.Tree.{PlainQuery}
pub use Rattle.sql_ast.specs.Meaning.{Answered, Rows, One, TooLarge, query_answer}
pub use Rattle.sql_ast.specs.Texts.{HasQuery}

-- a way to find the query that a text has under a schema: it gives a query exactly where the text has it
pub record Reader (schema : Schema) : Type 0 where
  pub read : List ℕ → Option PlainQuery
  pub exact : (text : List ℕ) (q : PlainQuery) → (read text ≡ Some q) ↔ HasQuery schema text q

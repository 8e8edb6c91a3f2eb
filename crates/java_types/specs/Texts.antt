-- The query that a text is read as.
use Rattle.std.specs.Prelude.{ℕ, List, Result, Ok, Err}
use Rattle.std.specs.declared.option.Option.{Option}
use Rattle.std.specs.declared.option.Option.TheVariants.{Some, None}
use Rattle.qbs_base.specs.Values.{Schema}
use Rattle.sql_ast.specs.declared.rule.SqlRule.{SqlRule}
use Rattle.sql_ast.specs.Reader.{query_of_text}
use Rattle.sql_ast.specs.Tree.{PlainQuery}

abbrev pub found : Result PlainQuery SqlRule → Option PlainQuery
found (Ok q) = Some q
found (Err rule) = None

-- the query that a text has under a schema, read from left to right, and none where it has none
abbrev pub read_by : Schema → List ℕ → Option PlainQuery
read_by schema text = found (query_of_text schema text)

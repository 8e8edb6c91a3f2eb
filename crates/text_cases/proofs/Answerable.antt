-- A query that a text has is answered.
use Rattle.std.proofs.Common.{ℕ, ◌<◌, ◌^◌, List, length}
use Rattle.qbs_base.specs.Values.{Schema}
use Rattle.sql_ast.specs.Tree.{PlainQuery}
use Rattle.sql_ast.specs.Texts.{HasQuery}
use Rattle.sql_ast.proofs.InvertedQuery.{has_query_valid}
use Rattle.sql_exec.specs.Answered.{IsAnswerable}
use Rattle.sql_exec.proofs.Judged.{is_answerable}

pub answerable : (schema : Schema) (text : List ℕ) (q : PlainQuery) → length text < 2 ^ 64 → HasQuery schema text q → IsAnswerable q
answerable schema text q short has = is_answerable schema q (has_query_valid schema text q short has)

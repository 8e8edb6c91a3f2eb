-- Queries that texts have are answered.
use Rattle.std.proofs.Common.{ℕ, ◌<◌, ◌^◌, List, length, ap}
use Rattle.qbs_base.specs.Values.{Schema}
use Rattle.sql_ast.specs.Tree.{PlainQuery}
use Rattle.sql_ast.specs.Texts.{HasQuery}
use Rattle.sql_ast.proofs.InvertedQuery.{has_query_valid}
use Rattle.sql_ast.proofs.Judged.{query_exactly}
use Rattle.sql_exec.proofs.Judged.{is_answerable}
use Rattle.java_types.specs.Texts.{found}
use Rattle.java_steps.specs.IsRead.{IsRead}

pub answerable : (schema : Schema) (text : List ℕ) (q : PlainQuery) → length text < 2 ^ 64 → HasQuery schema text q → IsRead schema text q
answerable schema text q short has = record { read = ap found ((query_exactly schema text q).0 has); answered = is_answerable schema q (has_query_valid schema text q short has) }

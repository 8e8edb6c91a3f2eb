-- A query is found exactly where the text has it.
use Rattle.std.proofs.Common.{◌≡◌, ◌↔◌, ℕ, List, Some, Result, Ok, Err, ap}
use Rattle.qbs_base.specs.Values.{Schema}
use Rattle.sql_ast.specs.declared.rule.SqlRule.{SqlRule}
use Rattle.sql_ast.specs.Tree.{PlainQuery}
use Rattle.sql_ast.specs.Reader.{query_of_text}
use Rattle.sql_ast.proofs.Judged.{query_exactly}
use Rattle.java_mean.specs.Queries.{HasQuery}
use Rattle.java_types.specs.Texts.{found, read_by}

is_ok : (r : Result PlainQuery SqlRule) (q : PlainQuery) → found r ≡ Some q → r ≡ Ok q
is_ok (Ok x) q e = let h : Some x ≡ Some q = e in let same : x ≡ q = cc in ap Ok same
is_ok (Err rule) q e = absurd cc

pub found_exactly : (schema : Schema) (text : List ℕ) (q : PlainQuery) → (read_by schema text ≡ Some q) ↔ HasQuery schema text q
found_exactly schema text q = (λ e. (query_exactly schema text q).1 (is_ok (query_of_text schema text) q e), λ h. ap found ((query_exactly schema text q).0 h))

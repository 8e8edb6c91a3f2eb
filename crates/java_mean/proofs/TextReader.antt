-- The query language's own reading of texts is a reader.
use Rattle.std.proofs.Common.{◌≡◌, ◌↔◌, ℕ, List, Option, Some, None, Result, Ok, Err, ap}
use Rattle.qbs_base.specs.Values.{Schema}
use Rattle.sql_ast.specs.declared.rule.SqlRule.{SqlRule}
use Rattle.sql_ast.specs.Tree.{PlainQuery}
use Rattle.sql_ast.specs.Reader.{query_of_text}
use Rattle.sql_ast.proofs.Judged.{query_exactly}
use Rattle.java_mean.specs.Queries.{Reader, HasQuery}

abbrev query_in : Result PlainQuery SqlRule → Option PlainQuery
query_in (Ok q) = Some q
query_in (Err rule) = None

is_ok : (r : Result PlainQuery SqlRule) (q : PlainQuery) → query_in r ≡ Some q → r ≡ Ok q
is_ok (Ok x) q e = let h : Some x ≡ Some q = e in let same : x ≡ q = cc in ap Ok same
is_ok (Err rule) q e = absurd cc

pub text_reader : (schema : Schema) → Reader schema
text_reader schema = record { read = λ text. query_in (query_of_text schema text); exact = exact }
  where
    exact : (text : List ℕ) (q : PlainQuery) → (query_in (query_of_text schema text) ≡ Some q) ↔ HasQuery schema text q
    exact text q = (λ e. (query_exactly schema text q).1 (is_ok (query_of_text schema text) q e), λ h. ap query_in ((query_exactly schema text q).0 h))

use Rattle.sql_ast.proofs.CanonicalQuery.{canonical_has_query}
use Rattle.sql_ast.proofs.InvertedQuery.{has_query_valid}
use Rattle.sql_ast.proofs.laws.a_canonical_text_has_its_query.Goals as goal

pub returns : goal.returns
returns c = record { valid = has_query_valid; has = canonical_has_query; again = λ schema text q few h. canonical_has_query schema q (has_query_valid schema text q few h) }

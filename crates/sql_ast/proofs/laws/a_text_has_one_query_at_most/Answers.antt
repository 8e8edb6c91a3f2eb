use Rattle.sql_ast.proofs.OneQuery.{one_query}
use Rattle.sql_ast.proofs.laws.a_text_has_one_query_at_most.Goals as goal

pub returns : goal.returns
returns c = one_query

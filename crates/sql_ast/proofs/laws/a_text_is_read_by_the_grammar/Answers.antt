use Rattle.sql_ast.proofs.Judged.{query_exactly, rule_exactly}
use Rattle.sql_ast.proofs.laws.a_text_is_read_by_the_grammar.Goals as goal

pub returns : goal.returns
returns c = record { query = query_exactly; rule = rule_exactly }

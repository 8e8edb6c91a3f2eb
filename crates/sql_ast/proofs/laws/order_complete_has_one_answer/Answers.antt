use Rattle.sql_ast.proofs.OneAnswer.{has_one_answer}
use Rattle.sql_ast.proofs.laws.order_complete_has_one_answer.Goals as goal

pub returns : goal.returns
returns c = has_one_answer

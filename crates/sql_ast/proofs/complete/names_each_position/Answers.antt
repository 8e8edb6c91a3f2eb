use Rattle.sql_ast.proofs.Marks.{one_missing}
use Rattle.sql_ast.proofs.complete.names_each_position.Goals as goal

pub returns-then-not-some_names_position : goal.returns-then-not-some_names_position
returns-then-not-some_names_position c = one_missing _ c.as_slice.result.now c.loop-i.i c.len-i-end.result _ c.loop-i-test.true c.len-i-end.ensures c.as_slice.ensures c.if-not-some_names_position.ensures

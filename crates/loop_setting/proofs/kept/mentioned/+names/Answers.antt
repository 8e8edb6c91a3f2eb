use Rattle.std.proofs.Common.{ap, List}
use Rattle.java_ast.specs.declared.tree.Expr.{Expr}
use Rattle.java_ast.specs.Reading.{expression, expressions}
use Rattle.java_ast.specs.Names.{names_in, names_among, names_lent}
use Rattle.loop_setting.proofs.Gathered.{piece_put}
use Rattle.loop_text.proofs.Trees.Walked.{next_item}
use Rattle.loop_setting.proofs.kept.mentioned.+names.Goals as goal

pub put_all_names-loop-e-preserved : goal.put_all_names-loop-e-preserved
put_all_names-loop-e-preserved t c = (
  c.in_ok-put_names.ensures.listed,
  piece_put (names_lent c.loop-e.list.names) (names_lent c.put_names.new.list.names) _ _ (names_in (expression c.e-item.result)) _
      (ap (λ (l : List Expr). names_among (expressions l)) (next_item c.args.es.now c.loop-e.e-index c.e-item.result c.loop-e-test.true c.e-item.is))
      c.in_ok-put_names.ensures.names
      c.loop-e.invariant.1,
)

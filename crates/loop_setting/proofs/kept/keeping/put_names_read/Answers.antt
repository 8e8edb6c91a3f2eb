use Rattle.std.specs.Borrow.{Bor}
use Rattle.std.proofs.Common.{ap, List}
use Rattle.java_ast.specs.declared.tree.Expr.{Expr}
use Rattle.java_ast.specs.Reading.{expression}
use Rattle.java_ast.specs.Names.{names_read, names_in, names_lent}
use Rattle.loop_text.specs.Sites.Reading.{exprs_lent}
use Rattle.loop_setting.proofs.Gathered.{piece_put}
use Rattle.loop_text.proofs.Trees.Walked.{next_item}
use Rattle.loop_setting.proofs.kept.keeping.put_names_read.Goals as goal

pub loop-e-preserved : goal.loop-e-preserved
loop-e-preserved c = (
  c.in_ok-put_names.ensures.listed,
  piece_put (names_lent c.loop-e.list.names) (names_lent c.put_names.new.list.names) _ _ (names_in (expression c.e-item.result.now)) _
      (ap (λ (l : List (Bor Expr)). names_read (exprs_lent l)) (next_item c.args.entries.now c.loop-e.e-index c.e-item.result c.loop-e-test.true c.e-item.is))
      c.in_ok-put_names.ensures.names
      c.loop-e.invariant.1,
)

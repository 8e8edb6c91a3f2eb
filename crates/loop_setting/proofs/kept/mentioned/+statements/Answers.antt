use Rattle.std.proofs.Common.{ap, List}
use Rattle.java_ast.specs.declared.tree.Stmt.{Stmt}
use Rattle.java_ast.specs.Reading.{statement, statements}
use Rattle.java_ast.specs.Names.{mentioned_in, mentioned_among, names_lent}
use Rattle.loop_setting.proofs.Gathered.{piece_put}
use Rattle.loop_text.proofs.Trees.Walked.{next_item}
use Rattle.loop_setting.proofs.kept.mentioned.+statements.Goals as goal

pub put_all_mentioned-loop-s-preserved : goal.put_all_mentioned-loop-s-preserved
put_all_mentioned-loop-s-preserved t c = (
  c.in_ok-put_mentioned.ensures.listed,
  piece_put (names_lent c.loop-s.list.names) (names_lent c.put_mentioned.new.list.names) _ _ (mentioned_in (statement c.s-item.result)) _
      (ap (λ (l : List Stmt). mentioned_among (statements l)) (next_item c.args.block.now c.loop-s.s-index c.s-item.result c.loop-s-test.true c.s-item.is))
      c.in_ok-put_mentioned.ensures.names
      c.loop-s.invariant.1,
)

use Rattle.std.specs.Borrow.{Bor}
use Rattle.std.proofs.Common.{ap, List, map}
use Rattle.java_ast.specs.declared.tree.Stmt.{Stmt}
use Rattle.java_ast.specs.Reading.{statement}
use Rattle.java_ast.specs.Names.{mentioned_in, names_lent}
use Rattle.loop_text.specs.Statements.Wanted.{mentioned_in_all}
use Rattle.loop_setting.proofs.Gathered.{piece_put}
use Rattle.loop_text.proofs.Trees.Walked.{next_item}
use Rattle.loop_setting.proofs.kept.setters.put_mentioned_in_all.Goals as goal

pub loop-s-preserved : goal.loop-s-preserved
loop-s-preserved c = (
  c.in_ok-put_mentioned.ensures.listed,
  piece_put (names_lent c.loop-s.list.names) (names_lent c.put_mentioned.new.list.names) _ _ (mentioned_in (statement c.s-item.result.now)) _
      (ap (λ (l : List (Bor Stmt)). mentioned_in_all (map (λ s. statement s.now) l)) (next_item c.args.all.now c.loop-s.s-index c.s-item.result c.loop-s-test.true c.s-item.is))
      c.in_ok-put_mentioned.ensures.names
      c.loop-s.invariant.1,
)

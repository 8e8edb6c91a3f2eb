use Rattle.std.proofs.Common.{◌∙◌, ap, List}
use Rattle.std.proofs.lemmas.Result.{on_ok_weaker}
use Rattle.java_ast.specs.declared.tree.Stmt.{Stmt}
use Rattle.java_ast.specs.Reading.{expression, statement, statements}
use Rattle.java_ast.specs.Names.{updated_among, names_lent}
use Rattle.loop_setting.specs.Reading.{fragment_in_code}
use Rattle.loop_text.specs.Statements.Updated.{outer_with}
use Rattle.java_ast.proofs.Nodes.{if_else_is}
use Rattle.loop_setting.proofs.Updated.{statement_put, if_else_put}
use Rattle.loop_text.proofs.Trees.Walked.{next_item}
use Rattle.loop_setting.proofs.kept.accumulators.+updates.Goals as goal

pub put_all_updated-loop-s-preserved : goal.put_all_updated-loop-s-preserved
put_all_updated-loop-s-preserved t c = (
  c.in_ok-put_updated.ensures.listed,
  statement_put (fragment_in_code c.args.f.now) (names_lent c.loop-s.list.names) (names_lent c.put_updated.new.list.names) _ (statement c.s-item.result) _ _
      (ap statements (next_item c.args.block.now c.loop-s.s-index c.s-item.result c.loop-s-test.true c.s-item.is))
      c.in_ok-put_updated.ensures.names
      c.loop-s.invariant.1,
)

pub put_updated-returns-in_ok-put_all_updated-in-Some-clause-names : goal.put_updated-returns-in_ok-put_all_updated-in-Some-clause-names
put_updated-returns-in_ok-put_all_updated-in-Some-clause-names t c =
    on_ok_weaker c.put_all_updated-in-Some-2.result (λ second. if_else_put (fragment_in_code c.args.f.now) (names_lent c.args.list.now.names) (names_lent c.put_all_updated-in-Some.new.list.names) (names_lent c.put_all_updated-in-Some-2.new.list.names) (statement c.args.s.now) c.args.s.now.span (expression c.in-If.cond) (statements c.in-If.yes.items) (statements c.in-Some.other.items)
    (if_else_is c.args.s.now c.in-If.cond c.in-If.yes c.in-Some.other c.in-If.other c.in-If.is c.in-Some.is)
    (c.in_ok-put_all_updated-in-Some.ensures.names ∙ ap (λ (l : List Stmt). outer_with (fragment_in_code c.args.f.now) (names_lent c.args.list.now.names) (updated_among (statements l))) c.deref-in-Some.ensures.value)
    (second ∙ ap (λ (l : List Stmt). outer_with (fragment_in_code c.args.f.now) (names_lent c.put_all_updated-in-Some.new.list.names) (updated_among (statements l))) c.deref-in-Some-2.ensures.value)) c.put_all_updated-in-Some-2.ensures.names

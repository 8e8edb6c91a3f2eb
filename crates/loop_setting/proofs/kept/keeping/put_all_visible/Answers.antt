use Rattle.std.proofs.Common.{ap, List, ◌∙◌}
use Rattle.java_ast.specs.declared.tree.Stmt.{Stmt}
use Rattle.java_ast.specs.Reading.{statement, statements}
use Rattle.loop_text.specs.Statements.Fragment.{set_by}
use Rattle.java_ast.specs.Names.{with_names, names_lent}
use Rattle.loop_setting.specs.Reading.{fragment_in_code}
use Rattle.loop_text.specs.Statements.Wanted.{mentioned_by_visible, mentioned_where, keeps_visible}
use Rattle.loop_setting.proofs.Gathered.{piece_put}
use Rattle.loop_text.proofs.Trees.Walked.{next_item}
use Rattle.loop_setting.proofs.kept.keeping.put_all_visible.Goals as goal

pub loop-s-preserved : goal.loop-s-preserved
loop-s-preserved c =
    let f = fragment_in_code c.args.f.now in
    let s = statement c.s-item.result in (
      c.in_ok-put_where_visible.ensures.listed,
      piece_put (names_lent c.loop-s.list.names) (names_lent c.put_where_visible.new.list.names) _ _ (mentioned_where (keeps_visible f (set_by s)) s) _
          (ap (λ (l : List Stmt). mentioned_by_visible f (statements l)) (next_item c.args.f.now.run.now c.loop-s.s-index c.s-item.result c.loop-s-test.true c.s-item.is))
          (c.in_ok-put_where_visible.ensures.names ∙ ap (λ x. with_names (names_lent c.loop-s.list.names) (mentioned_where (keeps_visible f x) s)) c.set_by.ensures)
          c.loop-s.invariant.1,
    )

use Rattle.std.proofs.lemmas.Result.{on_ok_weaker}
use Rattle.std.proofs.Common.{◌≡◌, ◌+◌, List, drop, subst}
use Rattle.java_ast.specs.Names.{with_names}
use Rattle.java_ast.specs.declared.tree.Stmt.{Stmt}
use Rattle.java_ast.specs.Reading.{statement, statements}
use Rattle.java_mean.specs.Visible.{names_seen}
use Rattle.spreads.specs.Staying.{assigned_in, assigned_among}
use Rattle.spreads.proofs.Items.{drop_item}
use Rattle.spreads.proofs.Targets.{one_listed, if_else_put, for_each_put}
use Rattle.spreads.proofs.assigned.+assigned.Goals as goal

pub put_all_assigned-loop-s-preserved : goal.put_all_assigned-loop-s-preserved
put_all_assigned-loop-s-preserved t c =
    one_listed (assigned_in (statement c.s-item.result)) (assigned_among (statements (drop (c.loop-s.s-index + 1) c.args.block.now))) (names_seen c.loop-s.names) (names_seen c.put_assigned.new.names)
    (with_names (names_seen c.args.names.now) (assigned_among (statements c.args.block.now))) c.in_ok-put_assigned.ensures
    (subst (λ (l : List Stmt). with_names (names_seen c.loop-s.names) (assigned_among (statements l)) ≡ with_names (names_seen c.args.names.now) (assigned_among (statements c.args.block.now)))
    (drop_item c.args.block.now c.loop-s.s-index c.s-item.result c.loop-s-test.true c.s-item.is) c.loop-s.invariant)

pub put_assigned-returns-in_ok-put_all_assigned-in-Some : goal.put_assigned-returns-in_ok-put_all_assigned-in-Some
put_assigned-returns-in_ok-put_all_assigned-in-Some t c =
    on_ok_weaker c.put_all_assigned-in-Some-2.result
    (if_else_put c.args.s.now c.in-If.cond c.in-If.yes c.in-Some.other c.in-If.other c.deref-in-Some.result.now c.deref-in-Some-2.result.now (names_seen c.args.names.now) (names_seen c.put_all_assigned-in-Some.new.names) (names_seen c.put_all_assigned-in-Some-2.new.names)
    c.in-If.is c.in-Some.is c.deref-in-Some.ensures.value c.deref-in-Some-2.ensures.value c.in_ok-put_all_assigned-in-Some.ensures) c.put_all_assigned-in-Some-2.ensures

pub put_assigned-returns-in-ForEach : goal.put_assigned-returns-in-ForEach
put_assigned-returns-in-ForEach t c =
    on_ok_weaker c.put_all_assigned-in-ForEach.result
    (for_each_put c.args.s.now c.in-ForEach.ty c.in-ForEach.name c.in-ForEach.list c.in-ForEach.body c.deref-in-ForEach.result.now (names_seen c.args.names.now) (names_seen c.put_all_assigned-in-ForEach.new.names)
    c.in-ForEach.is c.deref-in-ForEach.ensures.value) c.put_all_assigned-in-ForEach.ensures

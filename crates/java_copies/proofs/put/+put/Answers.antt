use Rattle.std.proofs.lemmas.Result.{on_ok_weaker}
use Rattle.std.proofs.Common.{refl, ◌∙◌}
use Rattle.java_ast.specs.Reading.{statements}
use Rattle.java_ast.specs.Path.{replaced_in}
use Rattle.java_ast.proofs.Numbered.{statement_none}
use Rattle.java_copies.proofs.Ranges.{not_placed, if_with, if_else_with, for_each_with, while_with}
use Rattle.java_copies.proofs.Moved.{both_ok, step_put}
use Rattle.java_copies.proofs.put.+put.Goals as goal

pub put_in_block-returns-in_default-get_mut : goal.put_in_block-returns-in_default-get_mut
put_in_block-returns-in_default-get_mut t c =
    not_placed c.args.path.now c.in-Some.below.now c.in-Some-split_first.rest.now c.in-Some.at.now c.in-Some-split_first.further.now c.args.number c.args.first (statements c.args.others.items) (statements c.args.block.now.items)
    c.in-Some.ensures.cases.0 c.in-Some-split_first.ensures.cases.0 (statement_none c.args.block.now.items c.args.number c.in_default-get_mut.ensures.item.3)

pub put_in_block-returns : goal.put_in_block-returns
put_in_block-returns t c =
    rw c.set.ensures (on_ok_weaker c.put_in_statement-changed.result.1 (step_put c.args.path.now c.in-Some.below.now c.in-Some-split_first.rest.now c.in-Some.at.now c.in-Some-split_first.further.now c.args.number c.args.first (statements c.args.others.items) c.args.block.now.items c.replace-s.result c.put_in_statement-changed.result.0 c.in-Some-get_mut.there.now
    c.in-Some.ensures.cases.0 c.in-Some-split_first.ensures.cases.0 c.in-Some-get_mut.ensures.item.3.0 (c.replace-s.ensures.value ∙ c.in-Some-get_mut.ensures.item.1)) c.put_in_statement-changed.ensures)

pub put_in_statement-returns-in-None : goal.put_in_statement-returns-in-None
put_in_statement-returns-in-None t c =
    on_ok_weaker c.put_in_branch-done.result (if_with c.args.s c.if_only.result c.in-If.cond c.in-If.yes c.put_in_branch-done.new.block c.in-If.other c.in-If.yes.items c.args.at (replaced_in c.args.path.now c.args.number c.args.first (statements c.args.others.items))
    c.in-If.is (rw c.in-If.other-is at c.in-None.is) refl (rw c.in-If.cond-is at c.if_only.ensures)) (rw c.in-If.yes-is at c.put_in_branch-done.ensures)

pub put_in_statement-returns-in-Some : goal.put_in_statement-returns-in-Some
put_in_statement-returns-in-Some t c =
    both_ok c.put_in_either-done.result (if_else_with c.args.s c.if_else.result c.in-If.cond c.in-If.yes c.put_in_either-done.new.yes c.in-Some.other c.put_in_either-done.new.other c.in-If.other c.in-If.yes.items c.in-Some.other.items c.args.at (replaced_in c.args.path.now c.args.number c.args.first (statements c.args.others.items))
    c.in-If.is (rw c.in-If.other-is at c.in-Some.is) refl refl (rw c.in-If.cond-is at c.if_else.ensures)) (rw c.in-If.yes-is at c.put_in_either-done.ensures.yes) c.put_in_either-done.ensures.other

pub put_in_statement-returns-in-ForEach : goal.put_in_statement-returns-in-ForEach
put_in_statement-returns-in-ForEach t c =
    on_ok_weaker c.put_in_branch-done-in-ForEach.result (for_each_with c.args.s c.for_each.result c.in-ForEach.ty c.in-ForEach.name c.in-ForEach.list c.in-ForEach.body c.put_in_branch-done-in-ForEach.new.block c.in-ForEach.body.items c.args.at (replaced_in c.args.path.now c.args.number c.args.first (statements c.args.others.items))
    c.in-ForEach.is refl (rw (c.in-ForEach.ty-is, c.in-ForEach.name-is, c.in-ForEach.list-is) at c.for_each.ensures)) (rw c.in-ForEach.body-is at c.put_in_branch-done-in-ForEach.ensures)

pub put_in_statement-returns-in-While : goal.put_in_statement-returns-in-While
put_in_statement-returns-in-While t c =
    on_ok_weaker c.put_in_branch-done-in-While.result (while_with c.args.s c.while_loop.result c.in-While.cond c.in-While.body c.put_in_branch-done-in-While.new.block c.in-While.body.items c.args.at (replaced_in c.args.path.now c.args.number c.args.first (statements c.args.others.items))
    c.in-While.is refl (rw c.in-While.cond-is at c.while_loop.ensures)) (rw c.in-While.body-is at c.put_in_branch-done-in-While.ensures)

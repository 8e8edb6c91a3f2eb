use Rattle.std.proofs.lemmas.Result.{on_ok_weaker}
use Rattle.view_rules.specs.Setting.{within_of}
use Rattle.view_statements.proofs.Pushed.{if_pushed, if_else_pushed, for_each_pushed, for_index_pushed, for_iterator_pushed, while_pushed, skip_pushed}
use Rattle.view_statements.proofs.pushing.+push.Goals as goal

pub put_statement-returns-in_ok-put_head-in-If : goal.put_statement-returns-in_ok-put_head-in-If
put_statement-returns-in_ok-put_head-in-If t c =
    on_ok_weaker c.put_block.result
    (if_pushed (within_of c.args.w.now) c.args.found.now c.args.st.now c.in-If.at c.in-If.condition c.in-If.close c.in-If.braces c.in-If.body c.in-If.end
    c.deref-in-If.result.now c.as_slice-in-If.result.now c.args.cells.now c.put_head.new.cells c.put_block.new.cells
    c.in-If.is c.deref-in-If.ensures c.as_slice-in-If.ensures.value c.in_ok-put_head-in-If.ensures) c.put_block.ensures

pub put_statement-returns-in_ok-push_made-in-IfElse : goal.put_statement-returns-in_ok-push_made-in-IfElse
put_statement-returns-in_ok-push_made-in-IfElse t c =
    on_ok_weaker c.put_block-in-IfElse-2.result
    (if_else_pushed (within_of c.args.w.now) c.args.found.now c.args.st.now c.in-IfElse.at c.in-IfElse.condition c.in-IfElse.close c.in-IfElse.braces c.in-IfElse.body c.in-IfElse.other_at c.in-IfElse.other_braces c.in-IfElse.other c.in-IfElse.end
    c.deref-in-IfElse.result.now c.as_slice-in-IfElse.result.now c.as_slice-in-IfElse-2.result.now c.args.cells.now c.put_head-in-IfElse.new.cells c.put_block-in-IfElse.new.cells c.push_made.new.cells c.put_block-in-IfElse-2.new.cells
    c.in-IfElse.is c.deref-in-IfElse.ensures c.as_slice-in-IfElse.ensures.value c.as_slice-in-IfElse-2.ensures.value c.in_ok-put_head-in-IfElse.ensures c.in_ok-put_block-in-IfElse.ensures c.in_ok-push_made-in-IfElse.ensures) c.put_block-in-IfElse-2.ensures

pub put_statement-returns-in_ok-put_each-in-ForEach : goal.put_statement-returns-in_ok-put_each-in-ForEach
put_statement-returns-in_ok-put_each-in-ForEach t c =
    on_ok_weaker c.put_block-in-ForEach.result
    (for_each_pushed (within_of c.args.w.now) c.args.found.now c.args.st.now c.in-ForEach.at c.in-ForEach.inferred c.in-ForEach.name c.in-ForEach.java c.in-ForEach.walked c.in-ForEach.close c.in-ForEach.braces c.in-ForEach.body c.in-ForEach.end
    c.deref-in-ForEach.result.now c.as_slice-in-ForEach.result.now c.args.cells.now c.put_each.new.cells c.put_block-in-ForEach.new.cells
    c.in-ForEach.is c.deref-in-ForEach.ensures c.as_slice-in-ForEach.ensures.value c.in_ok-put_each-in-ForEach.ensures) c.put_block-in-ForEach.ensures

pub put_statement-returns-in_ok-put_each_name-in-ForIndex : goal.put_statement-returns-in_ok-put_each_name-in-ForIndex
put_statement-returns-in_ok-put_each_name-in-ForIndex t c =
    on_ok_weaker c.put_block-in-ForIndex.result
    (for_index_pushed (within_of c.args.w.now) c.args.found.now c.args.st.now c.in-ForIndex.at c.in-ForIndex.list c.in-ForIndex.first c.in-ForIndex.name c.in-ForIndex.java c.in-ForIndex.body c.in-ForIndex.close c.in-ForIndex.end
    c.as_slice-in-ForIndex.result.now c.args.cells.now c.put_each_name.new.cells c.put_block-in-ForIndex.new.cells
    c.in-ForIndex.is c.as_slice-in-ForIndex.ensures.value c.in_ok-put_each_name-in-ForIndex.ensures) c.put_block-in-ForIndex.ensures

pub put_statement-returns-in_ok-put_each_name-in-ForIterator : goal.put_statement-returns-in_ok-put_each_name-in-ForIterator
put_statement-returns-in_ok-put_each_name-in-ForIterator t c =
    on_ok_weaker c.put_block-in-ForIterator.result
    (for_iterator_pushed (within_of c.args.w.now) c.args.found.now c.args.st.now c.in-ForIterator.at c.in-ForIterator.list c.in-ForIterator.name c.in-ForIterator.java c.in-ForIterator.body c.in-ForIterator.close c.in-ForIterator.end
    c.as_slice-in-ForIterator.result.now c.args.cells.now c.put_each_name-in-ForIterator.new.cells c.put_block-in-ForIterator.new.cells
    c.in-ForIterator.is c.as_slice-in-ForIterator.ensures.value c.in_ok-put_each_name-in-ForIterator.ensures) c.put_block-in-ForIterator.ensures

pub put_statement-returns-in_ok-put_head-in-While : goal.put_statement-returns-in_ok-put_head-in-While
put_statement-returns-in_ok-put_head-in-While t c =
    on_ok_weaker c.put_block-in-While.result
    (while_pushed (within_of c.args.w.now) c.args.found.now c.args.st.now c.in-While.at c.in-While.condition c.in-While.close c.in-While.braces c.in-While.body c.in-While.end
    c.deref-in-While.result.now c.as_slice-in-While.result.now c.args.cells.now c.put_head-in-While.new.cells c.put_block-in-While.new.cells
    c.in-While.is c.deref-in-While.ensures c.as_slice-in-While.ensures.value c.in_ok-put_head-in-While.ensures) c.put_block-in-While.ensures

pub put_statement-returns-in_ok-put_other_way-in-Skip : goal.put_statement-returns-in_ok-put_other_way-in-Skip
put_statement-returns-in_ok-put_other_way-in-Skip t c =
    on_ok_weaker c.put_block-in-Skip.result
    (skip_pushed (within_of c.args.w.now) c.args.found.now c.args.st.now c.in-Skip.at c.in-Skip.condition c.in-Skip.close c.in-Skip.braces c.in-Skip.rest c.in-Skip.end
    c.deref-in-Skip.result.now c.as_slice-in-Skip.result.now c.args.cells.now c.put_other_way.new.cells c.put_block-in-Skip.new.cells
    c.in-Skip.is c.deref-in-Skip.ensures c.as_slice-in-Skip.ensures.value c.in_ok-put_other_way-in-Skip.ensures) c.put_block-in-Skip.ensures

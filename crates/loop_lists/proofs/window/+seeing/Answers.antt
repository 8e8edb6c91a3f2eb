use Rattle.std.specs.Prelude.{[], ◌∷◌, ◌++◌}
use Rattle.std.proofs.Common.{◌+◌, drop, arith}
use Rattle.std.proofs.lemmas.List.{drop_all}
use Rattle.std.proofs.lemmas.Result.{on_ok_weaker}
use Rattle.java_ast.specs.Reading.{statements}
use Rattle.loop_text.specs.Statements.Loops.{loops_among}
use Rattle.loop_text.proofs.Trees.Walked.{next_item}
use Rattle.loop_lists.proofs.Windows.{sees_both, sees_end, statement_seen, all_seen, if_seen, if_else_seen, for_each_seen, while_seen}
use Rattle.loop_lists.proofs.window.+seeing.Goals as goal

pub see_block-returns-then-left-eq0 : goal.see_block-returns-then-left-eq0
see_block-returns-then-left-eq0 t c =
    c.loop-i.invariant c.loop-i.left c.loop-i.found (sees_end c.args.most (loops_among c.args.path.now c.loop-i.i (statements (drop c.loop-i.i c.args.block.now))) c.loop-i.left c.loop-i.found (omega (arith, c.if-left-eq0.true)))

pub see_block-loop-i-preserved : goal.see_block-loop-i-preserved
see_block-loop-i-preserved t c =
    statement_seen c.args.most c.args.path.now c.loop-i.i (drop c.loop-i.i c.args.block.now) (drop (c.loop-i.i + 1) c.args.block.now) c.index-block-i.result (loops_among c.args.path.now 0 (statements c.args.block.now)) c.loop-i.left c.see_statement.new.left c.args.left.now c.loop-i.found c.see_statement.new.found c.args.found.now
    (next_item c.args.block.now c.loop-i.i c.index-block-i.result c.loop-i-test.true c.index-block-i.is) c.in_ok-see_statement.ensures c.loop-i.invariant

pub see_block-returns : goal.see_block-returns
see_block-returns t c =
    all_seen c.args.most c.args.path.now c.loop-i.i (drop c.loop-i.i c.args.block.now) (loops_among c.args.path.now 0 (statements c.args.block.now)) c.loop-i.left c.args.left.now c.loop-i.found c.args.found.now
    (drop_all c.loop-i.i c.args.block.now (omega (arith, c.loop-i-test.false))) c.loop-i.invariant

pub see_loop-returns : goal.see_loop-returns
see_loop-returns t c =
    on_ok_weaker c.see_branch.result
    (λ inside. sees_both c.args.most ((c.args.path.now ++ c.args.number ∷ []) ∷ []) (loops_among ((c.args.path.now ++ c.args.number ∷ []) ++ 0 ∷ []) 0 (statements c.args.body.now)) c.args.left.now c.see.new.left c.see_branch.new.left c.args.found.now c.see.new.found c.see_branch.new.found c.in_ok-see.ensures inside)
    c.see_branch.ensures

pub see_statement-returns-in-None : goal.see_statement-returns-in-None
see_statement-returns-in-None t c =
    on_ok_weaker c.see_branch.result
    (λ seen. if_seen c.args.most (c.args.path.now ++ c.args.number ∷ []) c.args.s.now c.in-If.cond c.in-If.yes c.in-If.other c.deref.result.now c.args.left.now c.see_branch.new.left c.args.found.now c.see_branch.new.found c.in-If.is c.in-None.is c.deref.ensures.value seen)
    c.see_branch.ensures

pub see_statement-returns-in_ok-see_branch-in-Some : goal.see_statement-returns-in_ok-see_branch-in-Some
see_statement-returns-in_ok-see_branch-in-Some t c =
    on_ok_weaker c.see_branch-in-Some-2.result
    (λ seen. if_else_seen c.args.most (c.args.path.now ++ c.args.number ∷ []) c.args.s.now c.in-If.cond c.in-If.yes c.in-Some.other c.in-If.other c.deref-in-Some.result.now c.deref-in-Some-2.result.now c.args.left.now c.see_branch-in-Some.new.left c.see_branch-in-Some-2.new.left c.args.found.now c.see_branch-in-Some.new.found c.see_branch-in-Some-2.new.found
    c.in-If.is c.in-Some.is c.deref-in-Some.ensures.value c.deref-in-Some-2.ensures.value c.in_ok-see_branch-in-Some.ensures seen)
    c.see_branch-in-Some-2.ensures

pub see_statement-returns-in-ForEach : goal.see_statement-returns-in-ForEach
see_statement-returns-in-ForEach t c =
    on_ok_weaker c.see_loop.result
    (λ seen. for_each_seen c.args.most (c.args.path.now ++ c.args.number ∷ []) c.args.s.now c.in-ForEach.ty c.in-ForEach.name c.in-ForEach.list c.in-ForEach.body c.deref-in-ForEach.result.now c.args.left.now c.see_loop.new.left c.args.found.now c.see_loop.new.found c.in-ForEach.is c.deref-in-ForEach.ensures.value seen)
    c.see_loop.ensures

pub see_statement-returns-in-While : goal.see_statement-returns-in-While
see_statement-returns-in-While t c =
    on_ok_weaker c.see_loop-in-While.result
    (λ seen. while_seen c.args.most (c.args.path.now ++ c.args.number ∷ []) c.args.s.now c.in-While.cond c.in-While.body c.deref-in-While.result.now c.args.left.now c.see_loop-in-While.new.left c.args.found.now c.see_loop-in-While.new.found c.in-While.is c.deref-in-While.ensures.value seen)
    c.see_loop-in-While.ensures

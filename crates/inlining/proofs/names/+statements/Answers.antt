use Rattle.std.proofs.lemmas.Result.{on_ok_weaker}
use Rattle.std.proofs.Common.{◌≡◌, ◌+◌, List, drop, subst}
use Rattle.java_ast.specs.declared.tree.Stmt.{Stmt}
use Rattle.java_ast.specs.Reading.{statement, statements}
use Rattle.java_calls.specs.ProgramNames.{statement_names, block_names}
use Rattle.call_rules.proofs.Numbers.{drop_item}
use Rattle.inlining.specs.Endings.{all_noted}
use Rattle.inlining.proofs.Noted.{one_listed, if_noted, if_else_noted, for_each_noted, while_noted}
use Rattle.inlining.proofs.names.+statements.Goals as goal

pub note_statement-returns-in-None : goal.note_statement-returns-in-None
note_statement-returns-in-None t c =
    on_ok_weaker c.note_block.result (if_noted c.args.s.now c.in-If.cond c.in-If.yes c.in-If.other c.deref.result.now c.args.tails.now c.note_expression.new.tails c.note_block.new.tails
    c.in-If.is c.in-None.is c.deref.ensures.value c.in_ok-note_expression-in-If.ensures) c.note_block.ensures

pub note_statement-returns-in_ok-note_block-in-Some : goal.note_statement-returns-in_ok-note_block-in-Some
note_statement-returns-in_ok-note_block-in-Some t c =
    on_ok_weaker c.note_block-in-Some-2.result (if_else_noted c.args.s.now c.in-If.cond c.in-If.yes c.in-Some.other c.in-If.other c.deref-in-Some.result.now c.deref-in-Some-2.result.now c.args.tails.now c.note_expression.new.tails c.note_block-in-Some.new.tails c.note_block-in-Some-2.new.tails
    c.in-If.is c.in-Some.is c.deref-in-Some.ensures.value c.deref-in-Some-2.ensures.value c.in_ok-note_expression-in-If.ensures c.in_ok-note_block-in-Some.ensures) c.note_block-in-Some-2.ensures

pub note_statement-returns-in_ok-note_declared-in-ForEach : goal.note_statement-returns-in_ok-note_declared-in-ForEach
note_statement-returns-in_ok-note_declared-in-ForEach t c =
    on_ok_weaker c.note_block-in-ForEach.result (for_each_noted c.args.s.now c.in-ForEach.ty c.in-ForEach.name c.in-ForEach.list c.in-ForEach.body c.deref-in-ForEach.result.now c.args.tails.now c.note_declared-in-ForEach.new.tails c.note_block-in-ForEach.new.tails
    c.in-ForEach.is c.deref-in-ForEach.ensures.value c.in_ok-note_declared-in-ForEach.ensures) c.note_block-in-ForEach.ensures

pub note_statement-returns-in_ok-note_expression-in-While : goal.note_statement-returns-in_ok-note_expression-in-While
note_statement-returns-in_ok-note_expression-in-While t c =
    on_ok_weaker c.note_block-in-While.result (while_noted c.args.s.now c.in-While.cond c.in-While.body c.deref-in-While.result.now c.args.tails.now c.note_expression-in-While.new.tails c.note_block-in-While.new.tails
    c.in-While.is c.deref-in-While.ensures.value c.in_ok-note_expression-in-While.ensures) c.note_block-in-While.ensures

pub note_block-loop-s-preserved : goal.note_block-loop-s-preserved
note_block-loop-s-preserved t c =
    one_listed (statement_names (statement c.s-item.result)) (block_names (statements (drop (c.loop-s.s-index + 1) c.args.block.now))) c.loop-s.tails c.note_statement.new.tails (all_noted c.args.tails.now (block_names (statements c.args.block.now))) c.in_ok-note_statement.ensures
    (subst (λ (l : List Stmt). all_noted c.loop-s.tails (block_names (statements l)) ≡ all_noted c.args.tails.now (block_names (statements c.args.block.now))) (drop_item c.args.block.now c.loop-s.s-index c.s-item.result c.loop-s-test.true c.s-item.is) c.loop-s.invariant)

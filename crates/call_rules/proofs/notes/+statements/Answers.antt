use Rattle.std.proofs.Common.{map}
use Rattle.std.proofs.lemmas.Result.{on_ok_weaker}
use Rattle.java_ast.specs.Reading.{method}
use Rattle.call_rules.proofs.Joined.{if_noted, if_else_noted, for_each_noted, while_noted}
use Rattle.call_rules.proofs.notes.+statements.Goals as goal

pub note_statement-returns-in-None : goal.note_statement-returns-in-None
note_statement-returns-in-None t c =
    on_ok_weaker c.note_block.result (if_noted (map method c.args.helpers.now) c.args.s.now c.in-If.cond c.in-If.yes c.in-If.other c.deref.result.now c.args.all.now c.note_expression-in-If.new.all c.note_block.new.all
    c.in-If.is c.in-None.is c.deref.ensures.value c.in_ok-note_expression-in-If.ensures) c.note_block.ensures

pub note_statement-returns-in_ok-note_block-in-Some : goal.note_statement-returns-in_ok-note_block-in-Some
note_statement-returns-in_ok-note_block-in-Some t c =
    on_ok_weaker c.note_block-in-Some-2.result (if_else_noted (map method c.args.helpers.now) c.args.s.now c.in-If.cond c.in-If.yes c.in-Some.other c.in-If.other c.deref-in-Some.result.now c.deref-in-Some-2.result.now c.args.all.now c.note_expression-in-If.new.all c.note_block-in-Some.new.all c.note_block-in-Some-2.new.all
    c.in-If.is c.in-Some.is c.deref-in-Some.ensures.value c.deref-in-Some-2.ensures.value c.in_ok-note_expression-in-If.ensures c.in_ok-note_block-in-Some.ensures) c.note_block-in-Some-2.ensures

pub note_statement-returns-in_ok-note_expression-in-ForEach : goal.note_statement-returns-in_ok-note_expression-in-ForEach
note_statement-returns-in_ok-note_expression-in-ForEach t c =
    on_ok_weaker c.note_block-in-ForEach.result (for_each_noted (map method c.args.helpers.now) c.args.s.now c.in-ForEach.ty c.in-ForEach.name c.in-ForEach.list c.in-ForEach.body c.deref-in-ForEach.result.now c.args.all.now c.note_expression-in-ForEach.new.all c.note_block-in-ForEach.new.all
    c.in-ForEach.is c.deref-in-ForEach.ensures.value c.in_ok-note_expression-in-ForEach.ensures) c.note_block-in-ForEach.ensures

pub note_statement-returns-in_ok-note_expression-in-While : goal.note_statement-returns-in_ok-note_expression-in-While
note_statement-returns-in_ok-note_expression-in-While t c =
    on_ok_weaker c.note_block-in-While.result (while_noted (map method c.args.helpers.now) c.args.s.now c.in-While.cond c.in-While.body c.deref-in-While.result.now c.args.all.now c.note_expression-in-While.new.all c.note_block-in-While.new.all
    c.in-While.is c.deref-in-While.ensures.value c.in_ok-note_expression-in-While.ensures) c.note_block-in-While.ensures

use Rattle.std.proofs.lemmas.Result.{on_ok_weaker}
use Rattle.std.proofs.Common.{◌≡◌, ◌+◌, List, drop, subst}
use Rattle.java_ast.specs.declared.tree.Expr.{Expr}
use Rattle.java_ast.specs.Reading.{expression, expressions}
use Rattle.java_calls.specs.ProgramNames.{expression_names, argument_names}
use Rattle.call_rules.proofs.Numbers.{drop_item}
use Rattle.inlining.specs.Endings.{all_noted}
use Rattle.inlining.proofs.Noted.{one_listed, query_noted, query_long_noted, query_boolean_noted}
use Rattle.inlining.proofs.names.+expressions.Goals as goal

pub note_expression-returns-in_ok-note_type-in-Query : goal.note_expression-returns-in_ok-note_type-in-Query
note_expression-returns-in_ok-note_type-in-Query t c =
    on_ok_weaker c.note_expressions.result (query_noted c.args.e.now c.in-Query.element c.in-Query.field-1 c.in-Query.arguments c.deref-in-Query.result.now c.args.tails.now c.note_type.new.tails c.note_expressions.new.tails
    c.in-Query.is c.deref-in-Query.ensures.value c.in_ok-note_type-in-Query.ensures) c.note_expressions.ensures

pub note_expression-returns-in-QueryBoolean : goal.note_expression-returns-in-QueryBoolean
note_expression-returns-in-QueryBoolean t c =
    on_ok_weaker c.note_expressions-in-QueryBoolean.result (query_boolean_noted c.args.e.now c.in-QueryBoolean.field-0 c.in-QueryBoolean.arguments c.deref-in-QueryBoolean.result.now c.args.tails.now c.note_expressions-in-QueryBoolean.new.tails
    c.in-QueryBoolean.is c.deref-in-QueryBoolean.ensures.value) c.note_expressions-in-QueryBoolean.ensures

pub note_expression-returns-in_ok-note_called-in-QueryLong : goal.note_expression-returns-in_ok-note_called-in-QueryLong
note_expression-returns-in_ok-note_called-in-QueryLong t c =
    on_ok_weaker c.note_expressions-in-QueryLong.result (query_long_noted c.args.e.now c.in-QueryLong.text c.in-QueryLong.arguments c.deref-in-QueryLong.result.now c.args.tails.now c.note_called.new.tails c.note_expressions-in-QueryLong.new.tails
    c.in-QueryLong.is c.deref-in-QueryLong.ensures.value c.in_ok-note_called-in-QueryLong.ensures) c.note_expressions-in-QueryLong.ensures

pub note_expressions-loop-e-preserved : goal.note_expressions-loop-e-preserved
note_expressions-loop-e-preserved t c =
    one_listed (expression_names (expression c.e-item.result)) (argument_names (expressions (drop (c.loop-e.e-index + 1) c.args.list.now))) c.loop-e.tails c.note_expression.new.tails (all_noted c.args.tails.now (argument_names (expressions c.args.list.now))) c.in_ok-note_expression.ensures
    (subst (λ (l : List Expr). all_noted c.loop-e.tails (argument_names (expressions l)) ≡ all_noted c.args.tails.now (argument_names (expressions c.args.list.now))) (drop_item c.args.list.now c.loop-e.e-index c.e-item.result c.loop-e-test.true c.e-item.is) c.loop-e.invariant)

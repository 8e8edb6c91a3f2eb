use Rattle.std.proofs.Common.{map}
use Rattle.std.proofs.lemmas.Result.{on_ok_weaker}
use Rattle.std.specs.Option.{option_map}
use Rattle.java_ast.specs.Reading.{method, statement}
use Rattle.call_rules.proofs.Joined.{query_noted, query_long_noted, query_boolean_noted}
use Rattle.call_rules.proofs.notes.+expressions.Goals as goal

pub note_expression-returns-in-Query : goal.note_expression-returns-in-Query
note_expression-returns-in-Query t c =
    on_ok_weaker c.note_expressions.result (query_noted (map method c.args.helpers.now) (option_map (λ s. statement s.now) c.args.whole) c.args.e.now c.in-Query.field-0 c.in-Query.field-1 c.in-Query.arguments c.deref-in-Query.result.now c.args.all.now c.note_expressions.new.all
    c.in-Query.is c.deref-in-Query.ensures.value) c.note_expressions.ensures

pub note_expression-returns-in-QueryBoolean : goal.note_expression-returns-in-QueryBoolean
note_expression-returns-in-QueryBoolean t c =
    on_ok_weaker c.note_expressions-in-QueryBoolean.result (query_boolean_noted (map method c.args.helpers.now) (option_map (λ s. statement s.now) c.args.whole) c.args.e.now c.in-QueryBoolean.field-0 c.in-QueryBoolean.arguments c.deref-in-QueryBoolean.result.now c.args.all.now c.note_expressions-in-QueryBoolean.new.all
    c.in-QueryBoolean.is c.deref-in-QueryBoolean.ensures.value) c.note_expressions-in-QueryBoolean.ensures

pub note_expression-returns-in_ok-note_call-in-QueryLong : goal.note_expression-returns-in_ok-note_call-in-QueryLong
note_expression-returns-in_ok-note_call-in-QueryLong t c =
    on_ok_weaker c.note_expressions-in-QueryLong.result (query_long_noted (map method c.args.helpers.now) (option_map (λ s. statement s.now) c.args.whole) c.args.e.now c.in-QueryLong.text c.in-QueryLong.arguments c.deref-in-QueryLong.result.now c.deref-in-QueryLong-2.result.now c.args.all.now c.note_call.new.all c.note_expressions-in-QueryLong.new.all
    c.in-QueryLong.is c.deref-in-QueryLong.ensures.value c.deref-in-QueryLong-2.ensures.value c.in_ok-note_call-in-QueryLong.ensures) c.note_expressions-in-QueryLong.ensures

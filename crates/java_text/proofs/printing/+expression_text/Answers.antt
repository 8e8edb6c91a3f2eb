use Rattle.std.specs.String.{string_bytes}
use Rattle.std.proofs.lemmas.Result.{IfOk-weaker}
use Rattle.java_ast.proofs.Nodes.{query_is, query_long_is, query_boolean_is, new_set_is}
use Rattle.java_text.proofs.Parts.{with_arguments, with_query}
use Rattle.java_text.proofs.printing.+expression_text.Goals as goal

pub put_expression-returns-in_ok-put_arguments-in-Query : goal.put_expression-returns-in_ok-put_arguments-in-Query
put_expression-returns-in_ok-put_arguments-in-Query t c =
    rw (query_is c.args.e.now c.in-Query.element c.in-Query.text c.in-Query.arguments c.in-Query.is)
    (IfOk-weaker c.put_close.result _ _ (λ _ third. with_arguments (string_bytes c.args.out.now) (string_bytes c.put_query.new.out) (string_bytes c.put_arguments.new.out) (string_bytes c.put_close.new.out) _ c.deref-in-Query.result.now c.in-Query.arguments.items c.deref-in-Query.ensures.value c.in_ok-put_query-in-Query.ensures c.in_ok-put_arguments-in-Query.ensures third) c.put_close.ensures)

pub put_expression-returns-in_ok-put_arguments-in-QueryLong : goal.put_expression-returns-in_ok-put_arguments-in-QueryLong
put_expression-returns-in_ok-put_arguments-in-QueryLong t c =
    rw (query_long_is c.args.e.now c.in-QueryLong.text c.in-QueryLong.arguments c.in-QueryLong.is)
    (IfOk-weaker c.put_close-in-QueryLong.result _ _ (λ _ third. with_arguments (string_bytes c.args.out.now) (string_bytes c.put_query_long.new.out) (string_bytes c.put_arguments-in-QueryLong.new.out) (string_bytes c.put_close-in-QueryLong.new.out) _ c.deref-in-QueryLong.result.now c.in-QueryLong.arguments.items c.deref-in-QueryLong.ensures.value c.in_ok-put_query_long-in-QueryLong.ensures c.in_ok-put_arguments-in-QueryLong.ensures third) c.put_close-in-QueryLong.ensures)

pub put_expression-returns-in_ok-put_arguments-in-QueryBoolean : goal.put_expression-returns-in_ok-put_arguments-in-QueryBoolean
put_expression-returns-in_ok-put_arguments-in-QueryBoolean t c =
    rw (query_boolean_is c.args.e.now c.in-QueryBoolean.text c.in-QueryBoolean.arguments c.in-QueryBoolean.is)
    (IfOk-weaker c.put_close-in-QueryBoolean.result _ _ (λ _ third. with_arguments (string_bytes c.args.out.now) (string_bytes c.put_query_boolean.new.out) (string_bytes c.put_arguments-in-QueryBoolean.new.out) (string_bytes c.put_close-in-QueryBoolean.new.out) _ c.deref-in-QueryBoolean.result.now c.in-QueryBoolean.arguments.items c.deref-in-QueryBoolean.ensures.value c.in_ok-put_query_boolean-in-QueryBoolean.ensures c.in_ok-put_arguments-in-QueryBoolean.ensures third) c.put_close-in-QueryBoolean.ensures)

pub put_expression-returns-in_ok-put_expression-in-Some : goal.put_expression-returns-in_ok-put_expression-in-Some
put_expression-returns-in_ok-put_expression-in-Some t c =
    rw (new_set_is c.args.e.now c.in-NewSet.query c.in-Some.query c.in-NewSet.is c.in-Some.is)
    (IfOk-weaker c.put_close-in-Some.result _ _ (λ _ third. with_query (string_bytes c.args.out.now) (string_bytes c.put_new_set_of.new.out) (string_bytes c.put_expression-in-Some.new.out) (string_bytes c.put_close-in-Some.new.out) _ c.deref-in-Some.result.now c.in-Some.query.value c.deref-in-Some.ensures c.in_ok-put_new_set_of-in-Some.ensures c.in_ok-put_expression-in-Some.ensures third) c.put_close-in-Some.ensures)

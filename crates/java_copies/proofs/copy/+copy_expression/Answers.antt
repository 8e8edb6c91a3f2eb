use Rattle.std.proofs.Common.{◌≡◌, ◌∙◌, ◌<◌, ◌++◌, ◌∷◌, List, suc, length, drop, ap, sym, add-one, drop-cons}
use Rattle.std.proofs.lemmas.Result.{IfOk-weaker}
use Rattle.java_ast.specs.declared.tree.Expr.{Expr}
use Rattle.java_ast.specs.Reading.{expressions}
use Rattle.java_copies.proofs.Copies.{expression_in, query_copied, query_long_copied, query_boolean_copied}
use Rattle.java_copies.proofs.copy.+copy_expression.Goals as goal

pub copy_expression-returns-in_ok-arguments-in-Query : goal.copy_expression-returns-in_ok-arguments-in-Query
copy_expression-returns-in_ok-arguments-in-Query t c =
    IfOk-weaker c.copy_query.result _ _ (λ r built. query_copied c.args.e.now r c.in-Query.element c.in-Query.text c.in-Query.arguments c.in_ok-arguments-in-Query.arguments c.deref-in-Query.result.now
    c.in-Query.is c.deref-in-Query.ensures.value built c.in_ok-arguments-in-Query.ensures) c.copy_query.ensures

pub copy_expression-returns-in_ok-arguments-in-QueryLong : goal.copy_expression-returns-in_ok-arguments-in-QueryLong
copy_expression-returns-in_ok-arguments-in-QueryLong t c =
    IfOk-weaker c.copy_query_long.result _ _ (λ r built. query_long_copied c.args.e.now r c.in-QueryLong.text c.in-QueryLong.arguments c.in_ok-arguments-in-QueryLong.arguments c.deref-in-QueryLong.result.now
    c.in-QueryLong.is c.deref-in-QueryLong.ensures.value built c.in_ok-arguments-in-QueryLong.ensures) c.copy_query_long.ensures

pub copy_expression-returns-in_ok-arguments-in-QueryBoolean : goal.copy_expression-returns-in_ok-arguments-in-QueryBoolean
copy_expression-returns-in_ok-arguments-in-QueryBoolean t c =
    IfOk-weaker c.copy_query_boolean.result _ _ (λ r built. query_boolean_copied c.args.e.now r c.in-QueryBoolean.text c.in-QueryBoolean.arguments c.in_ok-arguments-in-QueryBoolean.arguments c.deref-in-QueryBoolean.result.now
    c.in-QueryBoolean.is c.deref-in-QueryBoolean.ensures.value built c.in_ok-arguments-in-QueryBoolean.ensures) c.copy_query_boolean.ensures

pub copy_expressions-loop-e-preserved : goal.copy_expressions-loop-e-preserved
copy_expressions-loop-e-preserved t c =
    let h : c.loop-e.e-index < length c.args.list.now = c.loop-e-test.true in
    let d : drop c.loop-e.e-index c.args.list.now ≡ c.e-item.result ∷ drop (suc c.loop-e.e-index) c.args.list.now = rw (drop-cons c.args.list.now c.loop-e.e-index c.e-item.result) (ap (λ (e : Expr). e ∷ drop (suc c.loop-e.e-index) c.args.list.now) (sym c.e-item.is)) in
    let i : expressions (c.loop-e.all.items ++ drop c.loop-e.e-index c.args.list.now) ≡ expressions c.args.list.now = c.loop-e.invariant in
    rw (add-one, c.in_ok-push.ensures.items) (expression_in c.loop-e.all.items c.in_ok-copy_expression.field-0 c.e-item.result (drop (suc c.loop-e.e-index) c.args.list.now) c.in_ok-copy_expression.ensures
    ∙ ap (λ (l : List Expr). expressions (c.loop-e.all.items ++ l)) (sym d) ∙ i)

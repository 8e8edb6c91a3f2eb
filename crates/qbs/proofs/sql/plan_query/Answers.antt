use Rattle.std.proofs.Common.{◌≡◌, ◌∙◌, subst, sym}
use Rattle.std.proofs.lemmas.Result.{err_from_is_err_and}
use Rattle.sql_ast.specs.declared.tree.Query.{Query}
use Rattle.sql_ast.specs.Reading.{query as query_of}
use Rattle.sql_ast.specs.Texts.{HasQuery}
use Rattle.qbs.proofs.Asked.{asked, unasked}
use Rattle.qbs.proofs.sql.plan_query.Goals as goal

pub returns-in_err-query : goal.returns-in_err-query
returns-in_err-query c =
    let p = err_from_is_err_and c.from_residual.result c.from_residual.ensures.1 in
    rw (p.1, p.2)
    (unasked (λ (q : Query). HasQuery c.args.schema.now c.args.text.now (query_of q)) c.args.schema.now c.args.texts.now c.args.text.now c.in_err-query.field-0.0 c.in_err-query.ensures)

pub returns : goal.returns
returns c =
    let same : c.deref.result.now ≡ c.in_ok-query.query = c.deref.ensures ∙ c.in_ok-q.ensures.ok in
    asked c.args.schema.now c.args.texts.now c.args.text.now (query_of c.deref.result.now) c.plan_ordered.result
    (subst (λ (q : Query). HasQuery c.args.schema.now c.args.text.now (query_of q)) (sym same) c.in_ok-query.ensures) c.plan_ordered.ensures

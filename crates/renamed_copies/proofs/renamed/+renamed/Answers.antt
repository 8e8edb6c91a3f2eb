use Rattle.std.proofs.lemmas.Result.{IfOk-weaker}
use Rattle.renamed_copies.specs.Renamings.{renaming_of}
use Rattle.renamed_copies.proofs.Copied.{query_renamed, query_long_renamed, query_boolean_renamed}
use Rattle.renamed_copies.proofs.renamed.+renamed.Goals as goal

pub renamed_copy-returns-in_ok-arguments-in-Query : goal.renamed_copy-returns-in_ok-arguments-in-Query
renamed_copy-returns-in_ok-arguments-in-Query t c =
    IfOk-weaker c.copy_query.result _ _ (λ r built. query_renamed (renaming_of c.args.f.now) c.args.e.now r c.in-Query.element c.in-Query.text c.in-Query.arguments c.in_ok-arguments-in-Query.arguments c.deref-in-Query.result.now
    c.in-Query.is c.deref-in-Query.ensures.value built c.in_ok-arguments-in-Query.ensures) c.copy_query.ensures

pub renamed_copy-returns-in_ok-arguments-in-QueryLong : goal.renamed_copy-returns-in_ok-arguments-in-QueryLong
renamed_copy-returns-in_ok-arguments-in-QueryLong t c =
    IfOk-weaker c.copy_query_long.result _ _ (λ r built. query_long_renamed (renaming_of c.args.f.now) c.args.e.now r c.in-QueryLong.text c.in-QueryLong.arguments c.in_ok-arguments-in-QueryLong.arguments c.deref-in-QueryLong.result.now
    c.in-QueryLong.is c.deref-in-QueryLong.ensures.value built c.in_ok-arguments-in-QueryLong.ensures) c.copy_query_long.ensures

pub renamed_copy-returns-in_ok-arguments-in-QueryBoolean : goal.renamed_copy-returns-in_ok-arguments-in-QueryBoolean
renamed_copy-returns-in_ok-arguments-in-QueryBoolean t c =
    IfOk-weaker c.copy_query_boolean.result _ _ (λ r built. query_boolean_renamed (renaming_of c.args.f.now) c.args.e.now r c.in-QueryBoolean.text c.in-QueryBoolean.arguments c.in_ok-arguments-in-QueryBoolean.arguments c.deref-in-QueryBoolean.result.now
    c.in-QueryBoolean.is c.deref-in-QueryBoolean.ensures.value built c.in_ok-arguments-in-QueryBoolean.ensures) c.copy_query_boolean.ensures

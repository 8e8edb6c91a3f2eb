use Rattle.std.proofs.Common.{List, ◌∙◌, ap}
use Rattle.std.proofs.lemmas.Result.{IfOk-weaker}
use Rattle.java_ast.specs.declared.tree.Stmt.{Stmt}
use Rattle.java_ast.specs.Reading.{expression, statements}
use Rattle.spreads.specs.Narrowed.{query_of_body}
use Rattle.narrowing.specs.Narrowing.{asked_each}
use Rattle.narrowing.proofs.Made.{Asks, each_asked}
use Rattle.narrowing.proofs.instead.asked_in_list.Goals as goal

pub returns-in-ForEach : goal.returns-in-ForEach
returns-in-ForEach c =
    IfOk-weaker c.query_of_body.result
    (Asks (query_of_body c.args.schema.now (expression c.in-ForEach.list) c.in-ForEach.name (statements c.deref.result.now)))
    (Asks (asked_each c.args.schema.now (statements c.args.block.now)))
    (λ o h. each_asked c.args.schema.now c.args.block.now c.in-Some.field-0-1.now c.in-Some.s.now c.in-ForEach.ty c.in-ForEach.name c.in-ForEach.list c.in-ForEach.body _ c.in-Some.ensures.cases.0 c.in-ForEach.is
    (h ∙ ap (λ (l : List Stmt). query_of_body c.args.schema.now (expression c.in-ForEach.list) c.in-ForEach.name (statements l)) c.deref.ensures.value))
    c.query_of_body.ensures

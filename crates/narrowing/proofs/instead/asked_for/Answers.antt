use Rattle.std.proofs.Common.{List, ◌∙◌, ap}
use Rattle.std.specs.Prelude.{if◌then◌else◌}
use Rattle.std.specs.declared.option.Option.{Option}
use Rattle.std.specs.declared.option.Option.TheVariants.{None}
use Rattle.std.proofs.lemmas.Result.{IfOk-weaker}
use Rattle.java_ast.specs.declared.tree.Stmt.{Stmt}
use Rattle.java_ast.specs.Reading.{expression, statements}
use Rattle.java_ast.specs.Tree.{Expression}
use Rattle.spreads.specs.Narrowed.{query_of_body}
use Rattle.narrowing.specs.Replacing.{asked_for}
use Rattle.narrowing.proofs.Made.{Asks, for_asked}
use Rattle.narrowing.proofs.instead.asked_for.Goals as goal

pub returns-in-ForEach : goal.returns-in-ForEach
returns-in-ForEach c =
    let asked : List Stmt → Option Expression = λ (l : List Stmt). if c.walks_alone.result then query_of_body c.args.schema.now (expression c.args.value.now) c.in-ForEach.name (statements l) else None in
    IfOk-weaker c.asked_if.result
    (Asks (asked c.deref.result.now))
    (Asks (asked_for c.args.schema.now c.args.list.now (expression c.args.value.now) (statements c.args.block.now)))
    (λ o h. for_asked c.args.schema.now c.args.block.now c.in-Some.field-0-1.now c.in-Some.s.now c.args.list.now (expression c.args.value.now) c.in-ForEach.ty c.in-ForEach.name c.in-ForEach.list c.in-ForEach.body _ c.walks_alone.result
    c.in-Some.ensures.cases.0 c.in-ForEach.is c.walks_alone.ensures (h ∙ ap asked c.deref.ensures.value))
    c.asked_if.ensures

use Rattle.std.proofs.Common.{List, ◌∙◌, ap, ◌||◌}
use Rattle.std.specs.Prelude.{if◌then◌else◌}
use Rattle.java_ast.specs.declared.tree.Stmt.{Stmt}
use Rattle.java_ast.specs.Reading.{expression, statements}
use Rattle.narrowing.specs.declared.walk.Reason.TheVariants as reasons
use Rattle.narrowing.specs.Reasons.{is_fetch, reason_of_body}
use Rattle.narrowing.proofs.Reasoned.{for_each_reason}
use Rattle.narrowing.proofs.reasons.reason_of.Goals as goal

pub returns-in-ForEach : goal.returns-in-ForEach
returns-in-ForEach c =
    for_each_reason c.args.declared c.args.block.now c.in-Some.field-0-1.now c.in-Some.s.now c.in-ForEach.ty c.in-ForEach.name c.in-ForEach.list c.in-ForEach.body c.reason_over.result
    c.in-Some.ensures.cases.0 c.in-ForEach.is
    (c.reason_over.ensures ∙ ap (λ (l : List Stmt). if is_fetch (expression c.in-ForEach.list) || c.args.declared then reason_of_body (statements l) else reasons.List) c.deref.ensures.value)

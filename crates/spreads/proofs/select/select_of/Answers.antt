use Rattle.std.proofs.Common.{◌∙◌}
use Rattle.std.proofs.lemmas.Result.{IfOk-weaker}
use Rattle.java_mean.specs.Visible.{names_seen}
use Rattle.java_types.specs.Texts.{read_by}
use Rattle.spreads.proofs.Asked.{asked_is}
use Rattle.spreads.proofs.select.select_of.Goals as goal

pub returns-in-Table : goal.returns-in-Table
returns-in-Table c =
    IfOk-weaker c.select_asked.result _ _
    (λ o h.
    h
    ∙ asked_is c.args.schema.now (read_by c.args.schema.now) (names_seen c.args.assigned.now) c.args.e.now c.in-Query.element c.in-Table.field-0 c.in-Query.text c.in-Query.arguments c.deref.result.now
    c.in-Query.is c.in-Table.is c.deref.ensures.value)
    c.select_asked.ensures

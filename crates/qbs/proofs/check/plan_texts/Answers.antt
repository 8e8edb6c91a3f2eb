use Rattle.qbs.specs.ByMap.{checks_by}
use Rattle.qbs.proofs.ByView.{due_of}
use Rattle.qbs.proofs.check.plan_texts.Goals as goal

pub returns-in-None : goal.returns-in-None
returns-in-None c = due_of (λ m. checks_by m c.args.schema.now c.args.source.now c.args.bundle.now) c.args.map.now _ c.plan_source.result c.in-None.is c.plan_source.ensures

pub returns-in-Some : goal.returns-in-Some
returns-in-Some c =
    due_of (λ m. checks_by m c.args.schema.now c.args.source.now c.args.bundle.now) c.args.map.now _ c.plan_source_by_view.result c.in-Some.is
    (rw c.as_slice.ensures at c.plan_source_by_view.ensures)

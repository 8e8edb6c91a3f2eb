use Rattle.qbs.proofs.ByView.{proves_plain, proves_viewed}
use Rattle.qbs.proofs.prove.plan_texts.Goals as goal

pub returns-in-None : goal.returns-in-None
returns-in-None g c =
    proves_plain _ c.args.options.now c.args.map.now c.args.files.now.schema c.args.files.now.source c.args.files.now.store c.plan_source.result c.in-None.is
    c.plan_source.ensures

pub returns-in-Some : goal.returns-in-Some
returns-in-Some g c =
    proves_viewed _ c.args.options.now c.args.map.now _ c.args.files.now.schema c.args.files.now.source c.args.files.now.store c.plan_source_by_view.result c.in-Some.is
    (rw c.as_slice.ensures at c.plan_source_by_view.ensures)

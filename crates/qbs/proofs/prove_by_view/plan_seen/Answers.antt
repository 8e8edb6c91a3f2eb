use Rattle.std.proofs.Common.{ap}
use Rattle.qbs.specs.Rewrite.{size_of, budget_of}
use Rattle.qbs.specs.Seen.{seen_by}
use Rattle.qbs.proofs.Seeing.{nothing_due}
use Rattle.qbs.proofs.prove_by_view.plan_seen.Goals as goal

pub returns-in-Nothing : goal.returns-in-Nothing
returns-in-Nothing g c =
    nothing_due _ c.args.map.now c.args.schema.now (size_of c.args.options.now) (budget_of c.args.options.now) c.args.source.now (seen_by c.args.seen.now) c.plan_nothing.result
    (ap seen_by c.in-Nothing.is) c.plan_nothing.ensures

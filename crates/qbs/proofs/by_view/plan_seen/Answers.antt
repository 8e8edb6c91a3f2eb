use Rattle.std.proofs.Common.{rules}
use Rattle.qbs.specs.Rewrite.{size_of, budget_of}
use Rattle.qbs.specs.Seen.{seen_by}
use Rattle.qbs.proofs.WrittenBack.{left_written}
use Rattle.qbs.proofs.by_view.plan_seen.Goals as goal

pub returns-in-Nothing : goal.returns-in-Nothing
returns-in-Nothing g c =
    left_written _ c.args.map.now c.args.schema.now (size_of c.args.options.now) (budget_of c.args.options.now) c.args.source.now (seen_by c.args.seen.now) c.plan_left.result
    (search rules) c.plan_left.ensures.status c.plan_left.ensures.left

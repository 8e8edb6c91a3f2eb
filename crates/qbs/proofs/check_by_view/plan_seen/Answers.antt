use Rattle.deriv_check.specs.Bundles.{entries_of}
use Rattle.qbs.specs.Check.{checks}
use Rattle.qbs.specs.CheckByView.{seen_program}
use Rattle.qbs.specs.Seen.{seen_by}
use Rattle.qbs.proofs.ByView.{due_of}
use Rattle.qbs.proofs.check_by_view.plan_seen.Goals as goal

pub plan_viewed-requires : goal.plan_viewed-requires
plan_viewed-requires c = rw c.deref.ensures (rw c.in-Methods.is at c.requires)

pub returns-in-Methods : goal.returns-in-Methods
returns-in-Methods c =
    due_of (λ s. checks c.args.schema.now (seen_program (seen_by s)) (entries_of c.args.bundle.now)) c.args.seen.now _ c.plan_viewed.result c.in-Methods.is (rw c.deref.ensures at c.plan_viewed.ensures)

pub returns-in-Nothing : goal.returns-in-Nothing
returns-in-Nothing c =
    due_of (λ s. checks c.args.schema.now (seen_program (seen_by s)) (entries_of c.args.bundle.now)) c.args.seen.now _ c.plan_nothing.result c.in-Nothing.is c.plan_nothing.ensures

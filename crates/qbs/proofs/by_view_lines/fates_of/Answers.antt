use Rattle.view_slices.specs.Reading.{all_sliced}
use Rattle.qbs.specs.Fates.{fates_from}
use Rattle.qbs.specs.SeenAgain.{slices_in}
use Rattle.qbs.proofs.Told.{method_pushed}
use Rattle.qbs.proofs.by_view_lines.fates_of.Goals as goal

pub loop-method-preserved : goal.loop-method-preserved
loop-method-preserved c =
    method_pushed c.args.items.now c.args.methods.now c.loop-method.method-index c.method-item.result c.args.spelled.now c.loop-method.behind c.in_ok-behind.behind c.loop-method.fates c.push_fates.new.fates
    (fates_from c.args.items.now 0 0 (slices_in (all_sliced c.args.methods.now)) c.args.spelled.now) c.loop-method-test.true c.method-item.is c.in_ok-behind.ensures c.loop-method.invariant

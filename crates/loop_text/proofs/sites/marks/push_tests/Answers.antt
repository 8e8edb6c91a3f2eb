use Rattle.loop_text.proofs.Indexed.IndexedUnder.{next_tested}
use Rattle.loop_text.proofs.sites.marks.push_tests.Goals as goal

pub loop-t-preserved : goal.loop-t-preserved
loop-t-preserved c i =
    next_tested c.loop-t.found c.push_last.new.found c.args.n i c.args.tests.now c.loop-t.t-index c.t-item.result _ c.loop-t-test.true c.t-item.is
    (c.in_ok-push_last.ensures i)
    (c.loop-t.invariant i)

use Rattle.loop_text.proofs.Indexed.IndexedUnder.{next_unders}
use Rattle.loop_text.proofs.sites.marks.unders_of.Goals as goal

pub loop-n-preserved : goal.loop-n-preserved
loop-n-preserved c =
    next_unders c.loop-n.found c.push_under.new.found c.loop-n.n c.args.all.now c.index-all-n.result c.loop-n-test.true c.index-all-n.is c.in_ok-push_under.ensures c.loop-n.invariant

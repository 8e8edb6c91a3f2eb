use Rattle.loop_text.proofs.Indexed.BoundFound.{next_bound}
use Rattle.loop_text.proofs.sites.marks.binders_of.Goals as goal

pub loop-n-preserved : goal.loop-n-preserved
loop-n-preserved c =
    next_bound c.loop-n.found c.push_bound.new.found c.loop-n.n c.args.all.now c.index-all-n.result c.loop-n-test.true c.index-all-n.is c.in_ok-push_bound.ensures c.loop-n.invariant

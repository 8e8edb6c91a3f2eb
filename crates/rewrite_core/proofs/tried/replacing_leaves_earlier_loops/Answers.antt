-- Where a loop gives way, the loops before it stay, and there are fewer.
use Rattle.rewrite_core.proofs.EarlierLoops.{earlier_loops_stay, fewer_loops}
use Rattle.rewrite_core.proofs.tried.replacing_leaves_earlier_loops.Goals as goal

pub returns-clause-earlier : goal.returns-clause-earlier
returns-clause-earlier c = earlier_loops_stay

pub returns-clause-fewer : goal.returns-clause-fewer
returns-clause-fewer c = fewer_loops

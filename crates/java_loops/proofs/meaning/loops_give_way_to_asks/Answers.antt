use Rattle.java_loops.proofs.Kept.KeptPath.{loops_give_way}
use Rattle.java_loops.proofs.meaning.loops_give_way_to_asks.Goals as goal

pub returns : goal.returns
returns c = loops_give_way

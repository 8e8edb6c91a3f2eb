use Rattle.std.proofs.Common.{length}
use Rattle.loop_text.proofs.conditions.flags.+same_loops.Given as goal

abbrev pub decreases-same_loops : goal.decreases-same_loops
decreases-same_loops l = length l.a.now

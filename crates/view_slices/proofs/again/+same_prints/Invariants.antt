use Rattle.std.proofs.Common.{length}
use Rattle.view_slices.proofs.again.+same_prints.Given as goal

abbrev pub decreases-same_prints : goal.decreases-same_prints
decreases-same_prints l = length l.a.now

use Rattle.std.proofs.Common.{length}
use Rattle.kernel_copies.proofs.accumulators.+same_accumulators.Given as goal

abbrev pub decreases-same_accumulators : goal.decreases-same_accumulators
decreases-same_accumulators l = length l.a.now

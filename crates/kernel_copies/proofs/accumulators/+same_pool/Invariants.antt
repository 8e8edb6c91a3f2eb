use Rattle.std.proofs.Common.{length}
use Rattle.kernel_copies.proofs.accumulators.+same_pool.Given as goal

abbrev pub decreases-same_pool : goal.decreases-same_pool
decreases-same_pool l = length l.a.now

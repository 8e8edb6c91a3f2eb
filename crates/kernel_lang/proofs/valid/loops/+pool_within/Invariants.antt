use Rattle.std.proofs.Common.{length}
use Rattle.kernel_lang.proofs.valid.loops.+pool_within.Given as goal

abbrev pub decreases-pool_within : goal.decreases-pool_within
decreases-pool_within l = length l.pool.now

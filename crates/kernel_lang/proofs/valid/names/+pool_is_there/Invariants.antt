use Rattle.std.proofs.Common.{length}
use Rattle.kernel_lang.proofs.valid.names.+pool_is_there.Given as goal

abbrev pub decreases-pool_is_there : goal.decreases-pool_is_there
decreases-pool_is_there l = length l.pool.now

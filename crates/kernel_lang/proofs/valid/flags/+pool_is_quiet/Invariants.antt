use Rattle.std.proofs.Common.{length}
use Rattle.kernel_lang.proofs.valid.flags.+pool_is_quiet.Given as goal

abbrev pub decreases-pool_is_quiet : goal.decreases-pool_is_quiet
decreases-pool_is_quiet l = length l.pool.now

use Rattle.std.proofs.Common.{length}
use Rattle.kernel_lang.proofs.valid.sizes.+count_ways.Given as goal

abbrev pub decreases-count_ways : goal.decreases-count_ways
decreases-count_ways l = length l.guards.now

use Rattle.std.proofs.Common.{length}
use Rattle.kernel_lang.proofs.valid.sizes.+pools_are_small.Given as goal

abbrev pub decreases-pools_are_small : goal.decreases-pools_are_small
decreases-pools_are_small l = length l.accs.now

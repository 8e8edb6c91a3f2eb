use Rattle.std.proofs.Common.{length}
use Rattle.kernel_lang.proofs.valid.+accumulators_broken.Given as goal

abbrev pub decreases-accumulators_broken : goal.decreases-accumulators_broken
decreases-accumulators_broken l = length l.accs.now

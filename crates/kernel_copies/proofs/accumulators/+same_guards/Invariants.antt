use Rattle.std.proofs.Common.{length}
use Rattle.kernel_copies.proofs.accumulators.+same_guards.Given as goal

abbrev pub decreases-same_guards : goal.decreases-same_guards
decreases-same_guards l = length l.a.now

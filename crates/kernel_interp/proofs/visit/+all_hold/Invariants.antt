use Rattle.std.proofs.Common.{length}
use Rattle.kernel_interp.proofs.visit.+all_hold.Given as goal

abbrev pub decreases-all_hold : goal.decreases-all_hold
decreases-all_hold l = length l.fs.now

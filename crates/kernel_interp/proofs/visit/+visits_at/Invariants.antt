use Rattle.std.proofs.Common.{length}
use Rattle.kernel_interp.proofs.visit.+visits_at.Given as goal

abbrev pub decreases-visits_at : goal.decreases-visits_at
decreases-visits_at l = length l.loops.now

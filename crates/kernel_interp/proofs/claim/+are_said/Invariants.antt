use Rattle.std.proofs.Common.{length}
use Rattle.kernel_interp.proofs.claim.+are_said.Given as goal

abbrev pub decreases-are_said : goal.decreases-are_said
decreases-are_said l = length l.members.now

use Rattle.std.proofs.Common.{length}
use Rattle.proof_store.proofs.gathering.+first_refuting.Given as goal

abbrev pub decreases-first_refuting : goal.decreases-first_refuting
decreases-first_refuting l = length l.smalls.now

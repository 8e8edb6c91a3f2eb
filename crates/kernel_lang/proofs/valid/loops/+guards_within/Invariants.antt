use Rattle.std.proofs.Common.{length}
use Rattle.kernel_lang.proofs.valid.loops.+guards_within.Given as goal

abbrev pub decreases-guards_within : goal.decreases-guards_within
decreases-guards_within l = length l.guards.now

use Rattle.std.proofs.Common.{length}
use Rattle.kernel_lang.proofs.valid.names.+guards_are_there.Given as goal

abbrev pub decreases-guards_are_there : goal.decreases-guards_are_there
decreases-guards_are_there l = length l.guards.now

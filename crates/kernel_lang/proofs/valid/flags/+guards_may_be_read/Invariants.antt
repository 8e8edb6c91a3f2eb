use Rattle.std.proofs.Common.{length}
use Rattle.kernel_lang.proofs.valid.flags.+guards_may_be_read.Given as goal

abbrev pub decreases-guards_may_be_read : goal.decreases-guards_may_be_read
decreases-guards_may_be_read l = length l.guards.now

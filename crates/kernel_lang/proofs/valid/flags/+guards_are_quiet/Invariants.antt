use Rattle.std.proofs.Common.{length}
use Rattle.kernel_lang.proofs.valid.flags.+guards_are_quiet.Given as goal

abbrev pub decreases-guards_are_quiet : goal.decreases-guards_are_quiet
decreases-guards_are_quiet l = length l.guards.now

use Rattle.std.proofs.Common.{length}
use Rattle.kernel_lang.proofs.valid.limits.+has_no_guard.Given as goal

abbrev pub decreases-has_no_guard : goal.decreases-has_no_guard
decreases-has_no_guard l = length l.guards.now

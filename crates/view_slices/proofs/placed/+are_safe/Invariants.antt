use Rattle.std.proofs.Common.{length}
use Rattle.view_slices.proofs.placed.+are_safe.Given as goal

abbrev pub decreases-are_safe : goal.decreases-are_safe
decreases-are_safe l = length l.outside.now

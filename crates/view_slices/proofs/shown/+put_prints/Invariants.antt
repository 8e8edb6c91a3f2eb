use Rattle.std.proofs.Common.{length}
use Rattle.view_slices.proofs.shown.+put_prints.Given as goal

abbrev pub decreases-put_prints : goal.decreases-put_prints
decreases-put_prints l = length l.prints.now

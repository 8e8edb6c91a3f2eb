use Rattle.std.proofs.Common.{length}
use Rattle.kernel_interp.proofs.fits.+tables_are_there.Given as goal

abbrev pub decreases-tables_are_there : goal.decreases-tables_are_there
decreases-tables_are_there l = length l.lists.now

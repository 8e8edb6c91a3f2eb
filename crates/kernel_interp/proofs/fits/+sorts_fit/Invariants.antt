use Rattle.std.proofs.Common.{length}
use Rattle.kernel_interp.proofs.fits.+sorts_fit.Given as goal

abbrev pub decreases-sorts_fit : goal.decreases-sorts_fit
decreases-sorts_fit l = length l.lists.now

use Rattle.std.proofs.Common.{length}
use Rattle.kernel_interp.proofs.fits.+updates_fit.Given as goal

abbrev pub decreases-updates_fit : goal.decreases-updates_fit
decreases-updates_fit l = length l.accs.now

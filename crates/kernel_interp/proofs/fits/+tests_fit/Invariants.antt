use Rattle.std.proofs.Common.{length}
use Rattle.kernel_interp.proofs.fits.+tests_fit.Given as goal

abbrev pub decreases-tests_fit : goal.decreases-tests_fit
decreases-tests_fit l = length l.atoms.now

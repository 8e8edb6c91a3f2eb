use Rattle.std.proofs.Common.{length}
use Rattle.kernel_interp.proofs.fits.+all_taken_fit.Given as goal

abbrev pub decreases-all_taken_fit : goal.decreases-all_taken_fit
decreases-all_taken_fit l = length l.accs.now

use Rattle.std.proofs.Common.{length}
use Rattle.kernel_interp.proofs.fits.+keys_fit.Given as goal

abbrev pub decreases-keys_fit : goal.decreases-keys_fit
decreases-keys_fit l = length l.keys.now

use Rattle.std.proofs.Common.{length}
use Rattle.kernel_interp.proofs.fits.+atoms_fit.Given as goal

abbrev pub decreases-atoms_fit : goal.decreases-atoms_fit
decreases-atoms_fit l = length l.atoms.now

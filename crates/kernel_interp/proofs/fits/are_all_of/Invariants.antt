use Rattle.std.proofs.Common.{◌≡◌, drop}
use Rattle.kernel_interp.specs.Fits.{are_all_of}
use Rattle.kernel_interp.proofs.fits.are_all_of.Given as goal

abbrev pub invariant-loop-row : goal.invariant-loop-row
invariant-loop-row l = are_all_of l.ty l.c l.rows ≡ are_all_of l.ty l.c (drop l.row-index l.rows)

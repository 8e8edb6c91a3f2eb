use Rattle.std.proofs.Common.{◌≡◌, drop}
use Rattle.tor_terms.specs.Fits as fits
use Rattle.tor_eval.proofs.eval_lists.are_distinct.Given as goal

abbrev pub invariant-loop-i : goal.invariant-loop-i
invariant-loop-i l = fits.distinct l.loops ≡ fits.distinct (drop l.i l.loops)

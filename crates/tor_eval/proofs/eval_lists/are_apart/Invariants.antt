use Rattle.std.proofs.Common.{◌≡◌, drop}
use Rattle.tor_terms.specs.Fits as fits
use Rattle.tor_eval.proofs.eval_lists.are_apart.Given as goal

abbrev pub invariant-loop-j : goal.invariant-loop-j
invariant-loop-j l = fits.apart l.a l.b ≡ fits.apart l.a (drop l.j-index l.b)

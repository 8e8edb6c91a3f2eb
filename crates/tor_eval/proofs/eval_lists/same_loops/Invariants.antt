use Rattle.std.proofs.Common.{◌≡◌, drop}
use Rattle.tor_terms.specs.Fits as fits
use Rattle.tor_eval.proofs.eval_lists.same_loops.Given as goal

abbrev pub invariant-loop-j : goal.invariant-loop-j
invariant-loop-j l = fits.same_loops l.a l.b ≡ fits.same_loops (drop l.j-index l.a) l.rest

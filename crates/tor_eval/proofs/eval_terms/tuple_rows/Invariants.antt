use Rattle.std.proofs.Common.{◌≡◌, take, map}
use Rattle.tor_terms.specs.Fits as fits
use Rattle.tor_eval.proofs.eval_terms.tuple_rows.Given as goal

abbrev pub invariant-loop-tuple : goal.invariant-loop-tuple
invariant-loop-tuple l = l.rows ≡ map fits.tuple_row (take l.tuple-index l.tuples)

use Rattle.std.proofs.Common.{◌≡◌, drop}
use Rattle.tor_terms.specs.Evaluation as found
use Rattle.tor_eval.proofs.eval_numbers.best_of.Given as goal

abbrev pub invariant-loop-row : goal.invariant-loop-row
invariant-loop-row l = found.best_of l.way l.start l.rows ≡ found.best_of l.way l.best (drop l.row-index l.rows)

use Rattle.std.proofs.Common.{◌≡◌, drop, []}
use Rattle.tor_terms.specs.Evaluation as found
use Rattle.tor_eval.proofs.eval_lists.first_rows.Given as goal

abbrev pub invariant-loop-row : goal.invariant-loop-row
invariant-loop-row l = found.first_rows [] l.rows ≡ found.first_rows l.seen (drop l.row-index l.rows)

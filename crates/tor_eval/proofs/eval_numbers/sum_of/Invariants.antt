use Rattle.std.proofs.Common.{◌≡◌, drop, ◌*◌}
use Rattle.std.specs.Prelude.{pos, ◌-ℤ◌, ◌≤ℤ◌, Some}
use Rattle.tor_terms.specs.Evaluation as found
use Rattle.tor_eval.proofs.eval_numbers.sum_of.Given as goal

abbrev pub invariant-loop-row : goal.invariant-loop-row
invariant-loop-row l = record {
  same : found.sum_of l.rows ≡ found.plus (Some l.sum) (found.sum_of (drop l.row-index l.rows));
  low : (pos 0 -ℤ pos (l.row-index * 9223372036854775808)) ≤ℤ l.sum;
  high : l.sum ≤ℤ pos (l.row-index * 9223372036854775808);
}

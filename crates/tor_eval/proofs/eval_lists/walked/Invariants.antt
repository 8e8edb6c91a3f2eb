use Rattle.std.proofs.Common.{◌≡◌, take, map}
use Rattle.tor_terms.specs.Evaluation as found
use Rattle.tor_eval.proofs.eval_lists.walked.Given as goal

abbrev pub invariant-loop-row : goal.invariant-loop-row
invariant-loop-row l = l.tuples ≡ map (found.one_tuple l.j) (take l.row-index l.rows)

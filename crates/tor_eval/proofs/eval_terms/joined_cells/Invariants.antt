use Rattle.std.proofs.Common.{◌≡◌, take}
use Rattle.tor_terms.specs.Evaluation as found
use Rattle.tor_eval.proofs.eval_terms.joined_cells.Given as goal

abbrev pub invariant-loop-own : goal.invariant-loop-own
invariant-loop-own l = l.cells ≡ found.cells_of (take l.own-index l.tuple)

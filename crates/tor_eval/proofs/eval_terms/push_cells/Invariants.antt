use Rattle.std.proofs.Common.{◌≡◌, take, ◌++◌}
use Rattle.tor_eval.proofs.eval_terms.push_cells.Given as goal

abbrev pub invariant-loop-cell : goal.invariant-loop-cell
invariant-loop-cell l = l.all ≡ l.initial.all ++ take l.cell-index l.cells

use Rattle.std.proofs.Common.{◌≡◌, take, map}
use Rattle.tor_terms.specs.Evaluation as found
use Rattle.tor_eval.proofs.eval_lists.projected.Given as goal

abbrev pub invariant-loop-t : goal.invariant-loop-t
invariant-loop-t l = l.rows ≡ map (found.elem_of l.env l.e) (take l.t-index l.ts)

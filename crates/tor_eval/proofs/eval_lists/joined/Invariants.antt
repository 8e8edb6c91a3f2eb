use Rattle.std.proofs.Common.{◌≡◌, take}
use Rattle.tor_terms.specs.Evaluation as found
use Rattle.tor_eval.proofs.eval_lists.joined.Given as goal

abbrev pub invariant-loop-t : goal.invariant-loop-t
invariant-loop-t l = l.all ≡ found.joined_tuples (take l.t-index l.ts) l.us

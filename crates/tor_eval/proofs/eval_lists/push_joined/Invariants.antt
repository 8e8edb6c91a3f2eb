use Rattle.std.proofs.Common.{◌≡◌, take, ◌++◌}
use Rattle.tor_terms.specs.Evaluation as found
use Rattle.tor_eval.proofs.eval_lists.push_joined.Given as goal

abbrev pub invariant-loop-u : goal.invariant-loop-u
invariant-loop-u l = l.all ≡ l.initial.all ++ found.after_tuple (take l.u-index l.us) l.t

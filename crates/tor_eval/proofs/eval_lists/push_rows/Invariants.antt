use Rattle.std.proofs.Common.{◌≡◌, take, ◌++◌}
use Rattle.tor_eval.proofs.eval_lists.push_rows.Given as goal

abbrev pub invariant-loop-own : goal.invariant-loop-own
invariant-loop-own l = l.all ≡ l.initial.all ++ take l.own-index l.tuple

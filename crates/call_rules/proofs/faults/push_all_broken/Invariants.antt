use Rattle.std.proofs.Common.{◌≡◌, ◌++◌, drop, map}
use Rattle.call_rules.specs.Candidates.{broken_in}
use Rattle.call_rules.proofs.faults.push_all_broken.Given as goal

abbrev pub invariant-loop-call : goal.invariant-loop-call
invariant-loop-call l = l.all ++ broken_in l.i (drop l.call-index l.calls) ≡ l.fn.all ++ broken_in l.i l.calls

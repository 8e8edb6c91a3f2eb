use Rattle.std.proofs.Common.{◌≡◌, ◌++◌, drop, map}
use Rattle.call_rules.specs.Candidates.{candidates_from}
use Rattle.call_rules.proofs.faults.candidates_of.Given as goal

abbrev pub invariant-loop-i : goal.invariant-loop-i
invariant-loop-i l = l.all ++ candidates_from l.ranks l.i (drop l.i l.calls) ≡ candidates_from l.ranks 0 l.calls

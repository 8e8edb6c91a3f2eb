use Rattle.std.proofs.Common.{◌≡◌, ◌++◌, drop, map}
use Rattle.std.specs.Prelude.{None}
use Rattle.call_rules.specs.Candidates.{least}
use Rattle.call_rules.proofs.faults.least.Given as goal

abbrev pub invariant-loop-c : goal.invariant-loop-c
invariant-loop-c l = least l.kept (drop l.c-index l.candidates) ≡ least None l.candidates

use Rattle.std.proofs.Common.{◌≡◌, drop}
use Rattle.tor_axioms.specs.Decide.{recorded}
use Rattle.tor_axioms.proofs.judged.recorded.Given as goal

abbrev pub invariant-loop-fact : goal.invariant-loop-fact
invariant-loop-fact l = recorded l.facts l.atom ≡ recorded (drop l.fact-index l.facts) l.atom

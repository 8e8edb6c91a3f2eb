use Rattle.std.proofs.Common.{◌≡◌, drop}
use Rattle.tor_axioms.specs.Decide.{has_less}
use Rattle.tor_axioms.proofs.judged.has_less.Given as goal

abbrev pub invariant-loop-fact : goal.invariant-loop-fact
invariant-loop-fact l = has_less l.atoms l.facts l.a l.b ≡ has_less l.atoms (drop l.fact-index l.facts) l.a l.b

use Rattle.std.proofs.Common.{◌≡◌, [], drop}
use Rattle.tor_axioms.specs.Decide.{with_facts}
use Rattle.tor_axioms.proofs.facts.with_facts.Given as goal

-- adding those that are left gives what adding all of them gives
abbrev pub invariant-loop-fact : goal.invariant-loop-fact
invariant-loop-fact l = with_facts l.atoms [] l.new ≡ with_facts l.atoms l.facts (drop l.fact-index l.new)

use Rattle.std.proofs.Common.{◌≡◌, take}
use Rattle.vc_gen.specs.Conditions.{facts_of}
use Rattle.vc_gen.proofs.condition.literals.Given as goal

abbrev pub invariant-loop-test : goal.invariant-loop-test
invariant-loop-test l = l.facts ≡ facts_of (take l.test-index l.path)

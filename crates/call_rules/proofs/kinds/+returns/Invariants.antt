use Rattle.std.proofs.Common.{◌≡◌, drop}
use Rattle.java_ast.specs.Reading.{statements}
use Rattle.java_mean.specs.Rules as rules
use Rattle.call_rules.proofs.kinds.+returns.Given as goal

abbrev pub invariant-returns-loop-s : goal.invariant-returns-loop-s
invariant-returns-loop-s l = rules.returns (statements (drop l.s-index l.block)) ≡ rules.returns (statements l.block)

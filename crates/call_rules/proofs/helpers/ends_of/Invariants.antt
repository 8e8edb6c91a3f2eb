use Rattle.std.proofs.Common.{◌≡◌, ◌++◌, drop, map}
use Rattle.java_ast.specs.Reading.{method}
use Rattle.java_calls.specs.Rules.{returns_at_its_end}
use Rattle.call_rules.proofs.helpers.ends_of.Given as goal

abbrev pub invariant-loop-m : goal.invariant-loop-m
invariant-loop-m l = l.ends ++ map returns_at_its_end (map method (drop l.m-index l.methods)) ≡ map returns_at_its_end (map method l.methods)

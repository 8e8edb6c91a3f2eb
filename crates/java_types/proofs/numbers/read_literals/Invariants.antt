use Rattle.std.proofs.Common.{◌≡◌, true, drop, map}
use Rattle.java_ast.specs.Reading.{method}
use Rattle.java_mean.specs.Numbers.{methods_fit}
use Rattle.java_types.proofs.numbers.read_literals.Given as goal

abbrev pub invariant-loop-m : goal.invariant-loop-m
invariant-loop-m l = methods_fit (map method (drop l.m-index l.p.methods)) ≡ true → methods_fit (map method l.p.methods) ≡ true

use Rattle.std.proofs.Common.{◌≡◌, ◌++◌, drop, map}
use Rattle.java_ast.specs.Reading.{method}
use Rattle.java_copies.proofs.programs.push_methods.Given as goal

abbrev pub invariant-loop-m : goal.invariant-loop-m
invariant-loop-m l = map method l.all ++ map method (drop l.m-index l.methods) ≡ map method l.fn.all ++ map method l.methods

use Rattle.std.proofs.Common.{◌≡◌, true, drop}
use Rattle.java_ast.specs.Reading.{expressions}
use Rattle.java_mean.specs.Numbers.{expressions_fit}
use Rattle.java_types.proofs.numbers.+expr.Given as goal

abbrev pub invariant-read_expressions-loop-e : goal.invariant-read_expressions-loop-e
invariant-read_expressions-loop-e l = expressions_fit (expressions (drop l.e-index l.es)) ≡ true → expressions_fit (expressions l.es) ≡ true

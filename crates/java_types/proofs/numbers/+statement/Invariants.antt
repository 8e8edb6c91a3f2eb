use Rattle.std.proofs.Common.{◌≡◌, true, drop}
use Rattle.java_ast.specs.Reading.{statements}
use Rattle.java_mean.specs.Numbers.{statements_fit}
use Rattle.java_types.proofs.numbers.+statement.Given as goal

abbrev pub invariant-read_statements-loop-s : goal.invariant-read_statements-loop-s
invariant-read_statements-loop-s l = statements_fit (statements (drop l.s-index l.block)) ≡ true → statements_fit (statements l.block) ≡ true

use Rattle.std.proofs.Common.{◌≡◌, drop}
use Rattle.java_ast.specs.Reading.{expression}
use Rattle.narrowing.specs.Lent.{expressions_lent}
use Rattle.spreads.specs.Narrowed.{number_of}
use Rattle.narrowing.proofs.Numbers.{raised}
use Rattle.narrowing.proofs.arguments.number_of.Given as goal

abbrev pub invariant-loop-a : goal.invariant-loop-a
invariant-loop-a l = record {
  count : l.number ≡ l.a-index;
  rest : raised l.number (number_of (expression l.e) (expressions_lent (drop l.a-index l.args))) ≡ number_of (expression l.e) (expressions_lent l.args);
}

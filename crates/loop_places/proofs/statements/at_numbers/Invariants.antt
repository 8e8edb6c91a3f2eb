use Rattle.std.proofs.Common.{◌≡◌, drop}
use Rattle.java_ast.specs.Path.{and_then}
use Rattle.java_ast.specs.Reading.{statements}
use Rattle.loop_places.specs.AtNumbers.{at_numbers}
use Rattle.loop_places.proofs.statements.at_numbers.Given as goal

abbrev pub invariant-loop-number : goal.invariant-loop-number
invariant-loop-number l = and_then (statements l.all.items) (at_numbers l.first (statements l.run) (drop l.number-index l.numbers)) ≡ at_numbers l.first (statements l.run) l.numbers

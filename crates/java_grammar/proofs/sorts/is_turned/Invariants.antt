use Rattle.std.proofs.Common.{◌≡◌, drop}
use Rattle.java_grammar.specs.Statements.{is_turned}
use Rattle.java_grammar.proofs.Turns.{turned_with}
use Rattle.java_grammar.proofs.sorts.is_turned.Given as goal

abbrev pub invariant-loop-part : goal.invariant-loop-part
invariant-loop-part l = turned_with l.turned (is_turned (drop l.part-index l.parts)) ≡ is_turned l.parts

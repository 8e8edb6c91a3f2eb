use Rattle.std.proofs.Common.{◌≡◌, ◌++◌, drop, map}
use Rattle.java_ast.specs.Reading.{method, expressions}
use Rattle.call_rules.specs.Noted.{notes_among}
use Rattle.call_rules.proofs.notes.+expressions.Given as goal

abbrev pub invariant-note_expressions-loop-e : goal.invariant-note_expressions-loop-e
invariant-note_expressions-loop-e l = l.all ++ notes_among (map method l.helpers) (expressions (drop l.e-index l.list)) ≡ l.fn.all ++ notes_among (map method l.helpers) (expressions l.list)

use Rattle.std.proofs.Common.{◌≡◌, drop}
use Rattle.java_ast.specs.Reading.{expressions}
use Rattle.java_calls.specs.ProgramNames.{argument_names}
use Rattle.inlining.specs.Endings.{all_noted}
use Rattle.inlining.proofs.names.+expressions.Given as goal

abbrev pub invariant-note_expressions-loop-e : goal.invariant-note_expressions-loop-e
invariant-note_expressions-loop-e l = all_noted l.tails (argument_names (expressions (drop l.e-index l.list))) ≡ all_noted l.fn.tails (argument_names (expressions l.list))

use Rattle.std.proofs.Common.{◌≡◌, ◌-◌}
use Rattle.java_ast.specs.Reading.{program}
use Rattle.java_calls.specs.ProgramNames.{names_of}
use Rattle.call_parts.specs.Marks.{unmarked_from, next_number}
use Rattle.inlining.proofs.class.Class.next_number.Given as goal

abbrev pub invariant-loop-passed : goal.invariant-loop-passed
invariant-loop-passed l = unmarked_from (l.count - l.passed) (names_of (program l.self)) l.number ≡ next_number (names_of (program l.self)) l.taken

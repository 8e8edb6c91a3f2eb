use Rattle.std.proofs.Common.{◌≡◌, ◌++◌, drop, map}
use Rattle.java_ast.specs.Reading.{method}
use Rattle.loop_text.specs.Statements.Loops.{loops_of_methods}
use Rattle.loop_text.proofs.statements.walk.loops_of.Given as goal

abbrev pub invariant-loop-i : goal.invariant-loop-i
invariant-loop-i l = l.found ++ loops_of_methods l.i (map method (drop l.i l.program.methods)) ≡ loops_of_methods 0 (map method l.program.methods)

use Rattle.std.proofs.Common.{◌≡◌, drop}
use Rattle.java_ast.specs.Reading.{statements}
use Rattle.loop_text.specs.Statements.Setting.{touched_again}
use Rattle.loop_text.proofs.Trees.Touched.{again}
use Rattle.loop_text.proofs.statements.runs.touched_again.Given as goal

abbrev pub invariant-loop-s : goal.invariant-loop-s
invariant-loop-s l = again l.seen l.x (statements (drop l.s-index l.run)) ≡ touched_again l.x (statements l.run)

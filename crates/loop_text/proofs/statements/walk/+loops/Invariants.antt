use Rattle.std.proofs.Common.{◌≡◌, ◌++◌, drop}
use Rattle.java_ast.specs.Reading.{statements}
use Rattle.loop_text.specs.Statements.Loops.{loops_among}
use Rattle.loop_text.proofs.statements.walk.+loops.Given as goal

abbrev pub invariant-push_block-loop-i : goal.invariant-push_block-loop-i
invariant-push_block-loop-i l = l.found ++ loops_among l.path l.i (statements (drop l.i l.block)) ≡ l.fn.found ++ loops_among l.path 0 (statements l.block)

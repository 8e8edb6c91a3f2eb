use Rattle.std.proofs.Common.{drop}
use Rattle.java_ast.specs.Reading.{statements}
use Rattle.loop_text.specs.Statements.Loops.{loops_among}
use Rattle.loop_lists.proofs.Windows.{Goes}
use Rattle.loop_lists.proofs.window.+seeing.Given as goal

abbrev pub invariant-see_block-loop-i : goal.invariant-see_block-loop-i
invariant-see_block-loop-i l = Goes l.most (loops_among l.path l.i (statements (drop l.i l.block))) (loops_among l.path 0 (statements l.block)) l.left l.fn.left l.found l.fn.found

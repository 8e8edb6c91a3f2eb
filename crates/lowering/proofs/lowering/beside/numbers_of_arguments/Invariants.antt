use Rattle.std.proofs.Common.{◌≡◌, ◌++◌, drop}
use Rattle.java_ast.specs.Reading.{expressions}
use Rattle.java_loops.specs.Lowering.Lowered.{numbers_of_arguments}
use Rattle.java_loops.specs.Lowering.Numbering.{arguments}
use Rattle.loop_text.specs.Sites.Reading.{exprs_lent}
use Rattle.lowering.proofs.lowering.beside.numbers_of_arguments.Given as goal

abbrev pub invariant-loop-e : goal.invariant-loop-e
invariant-loop-e l = l.numbers ++ numbers_of_arguments (exprs_lent l.entries) (arguments (expressions (drop l.e-index l.arguments))) ≡ numbers_of_arguments (exprs_lent l.entries) (arguments (expressions l.arguments))

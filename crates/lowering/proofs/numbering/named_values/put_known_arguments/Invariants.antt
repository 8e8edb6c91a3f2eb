use Rattle.std.proofs.Common.{drop}
use Rattle.java_ast.specs.Reading.{statements}
use Rattle.java_loops.specs.Lowering.Numbering.{with_arguments}
use Rattle.loop_text.specs.Sites.Reading.{exprs_lent}
use Rattle.java_ast.specs.Names.{names_lent}
use Rattle.java_loops.specs.Lowering.UpTo.{Reaches}
use Rattle.lowering.proofs.numbering.named_values.put_known_arguments.Given as goal

abbrev pub invariant-loop-ids : goal.invariant-loop-ids
invariant-loop-ids l =
    Reaches 9 (exprs_lent l.entries) (with_arguments (statements l.run) (exprs_lent l.entries) (names_lent (drop l.ids-index l.known))) (with_arguments (statements l.run) (exprs_lent l.fn.entries) (names_lent l.known))

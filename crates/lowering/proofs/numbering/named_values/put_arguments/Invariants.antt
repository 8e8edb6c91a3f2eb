use Rattle.std.proofs.Common.{drop}
use Rattle.java_ast.specs.Reading.{expressions}
use Rattle.java_loops.specs.Lowering.Numbering.{arguments, same_entry, with_all_new}
use Rattle.loop_text.specs.Sites.Reading.{exprs_lent}
use Rattle.java_loops.specs.Lowering.UpTo.{Reaches}
use Rattle.lowering.proofs.numbering.named_values.put_arguments.Given as goal

abbrev pub invariant-loop-e : goal.invariant-loop-e
invariant-loop-e l =
    Reaches 9 (exprs_lent l.entries) (with_all_new same_entry (exprs_lent l.entries) (arguments (expressions (drop l.e-index l.es)))) (with_all_new same_entry (exprs_lent l.fn.entries) (arguments (expressions l.es)))

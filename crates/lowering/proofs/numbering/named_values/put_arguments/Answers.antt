use Rattle.std.proofs.Common.{drop, arith}
use Rattle.std.proofs.lemmas.List.{length-map}
use Rattle.java_ast.specs.Reading.{expression, expressions}
use Rattle.java_loops.specs.Lowering.Numbering.{arguments, same_entry}
use Rattle.loop_text.specs.Sites.Reading.{exprs_lent}
use Rattle.java_loops.proofs.Lists.UpTo.{stopped, all_grows}
use Rattle.lowering.proofs.numbering.named_values.put_arguments.Goals as goal

pub returns-then-len-gt-MOST_ENTRIES : goal.returns-then-len-gt-MOST_ENTRIES
returns-then-len-gt-MOST_ENTRIES c =
    stopped 9 (exprs_lent c.loop-e.entries) _ _ (all_grows same_entry (exprs_lent c.loop-e.entries) (arguments (expressions (drop c.loop-e.e-index c.args.es.now))))
    (omega (arith, length-map c.loop-e.entries (λ e. expression e.now))) c.loop-e.invariant

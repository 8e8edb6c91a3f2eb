use Rattle.std.proofs.Common.{◌+◌, ap, drop, arith}
use Rattle.std.proofs.lemmas.List.{length-map}
use Rattle.java_ast.specs.Reading.{expression, statements}
use Rattle.loop_text.specs.Sites.Reading.{exprs_lent}
use Rattle.java_ast.specs.Names.{names_lent}
use Rattle.java_loops.proofs.Lists.UpTo.{stopped, query_found, arguments_grow}
use Rattle.loop_text.proofs.Trees.Walked.{next_item}
use Rattle.lowering.proofs.numbering.named_values.put_known_arguments.Goals as goal

pub returns-then-len-gt-MOST_ENTRIES : goal.returns-then-len-gt-MOST_ENTRIES
returns-then-len-gt-MOST_ENTRIES c =
    stopped 9 (exprs_lent c.loop-ids.entries) _ _ (arguments_grow (statements c.args.run.now) (exprs_lent c.loop-ids.entries) (names_lent (drop c.loop-ids.ids-index c.args.known.now)))
    (omega (arith, length-map c.loop-ids.entries (λ e. expression e.now))) c.loop-ids.invariant

pub loop-ids-preserved : goal.loop-ids-preserved
loop-ids-preserved c =
    query_found (statements c.args.run.now) (names_lent (drop c.loop-ids.ids-index c.args.known.now)) (names_lent (drop (c.loop-ids.ids-index + 1) c.args.known.now)) c.ids-item.result.now (exprs_lent c.loop-ids.entries) (exprs_lent c.put_asked.new.entries) _
    (ap names_lent (next_item c.args.known.now c.loop-ids.ids-index c.ids-item.result c.loop-ids-test.true c.ids-item.is))
    (omega (arith, length-map c.loop-ids.entries (λ e. expression e.now))) c.loop-ids.invariant c.in_ok-put_asked.ensures

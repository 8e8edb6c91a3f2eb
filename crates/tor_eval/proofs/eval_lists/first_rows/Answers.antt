use Rattle.std.proofs.Common.{◌≡◌, ◌+◌, drop, get_or, arith}
use Rattle.std.proofs.lemmas.List.{at_drop_more}
use Rattle.tor_terms.specs.Evaluation as found
use Rattle.tor_eval.proofs.eval_lists.first_rows.Goals as goal

pub loop-row-preserved : goal.loop-row-preserved
loop-row-preserved c =
    let e : found.first_rows c.loop-row.seen (drop c.loop-row.row-index c.args.rows.now) ≡ found.first_rows (found.with_row c.loop-row.seen (get_or c.args.rows.now c.loop-row.row-index c.row-item.result)) (drop (c.loop-row.row-index + 1) c.args.rows.now) = at_drop_more (found.first_rows c.loop-row.seen) c.args.rows.now c.loop-row.row-index c.row-item.result (omega arith) in
    cc (e, c.loop-row.invariant, c.in_ok-push_new.ensures, c.in_ok-copied_row.ensures, c.row-item.is)

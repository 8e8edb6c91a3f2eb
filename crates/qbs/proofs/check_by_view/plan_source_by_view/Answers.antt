use Rattle.std.proofs.lemmas.Result.{err_from_is_err_and}
use Rattle.qbs.proofs.Seeing.{unseen_due, seen_due}
use Rattle.qbs.proofs.check_by_view.plan_source_by_view.Goals as goal

pub plan_opened-requires : goal.plan_opened-requires
plan_opened-requires c = rw c.deref.ensures c.in_ok-by.ensures.has

pub returns-in_err-by : goal.returns-in_err-by
returns-in_err-by c =
    let p = err_from_is_err_and c.from_residual.result c.from_residual.ensures.1 in
    rw (p.1, p.2)
    (unseen_due _ c.args.map.now c.args.schema.now c.args.source.now _ c.in_err-by.field-0.0 c.in_err-by.ensures)

pub returns : goal.returns
returns c =
    seen_due c.args.map.now c.args.schema.now c.args.source.now _ c.in_ok-by.by.value c.plan_opened.result c.in_ok-by.ensures (rw c.deref.ensures at c.plan_opened.ensures)

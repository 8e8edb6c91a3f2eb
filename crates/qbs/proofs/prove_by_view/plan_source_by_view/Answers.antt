use Rattle.std.proofs.lemmas.Result.{err_from_is_err_and}
use Rattle.qbs.proofs.Seeing.{unseen_due, seen_due}
use Rattle.qbs.proofs.prove_by_view.plan_source_by_view.Goals as goal

pub plan_opened-requires-clause-seen : goal.plan_opened-requires-clause-seen
plan_opened-requires-clause-seen g c = rw c.deref.ensures (rw c.as_slice-2.ensures at c.in_ok-by.ensures.has)

pub returns-in_err-by : goal.returns-in_err-by
returns-in_err-by g c =
    let p = err_from_is_err_and c.from_residual.result c.from_residual.ensures.1 in
    rw (p.1, p.2)
    (unseen_due _ c.args.map.now c.args.files.now.schema c.args.files.now.source _ c.in_err-by.field-0.0 (rw (c.as_slice.ensures, c.as_slice-2.ensures) at c.in_err-by.ensures))

pub returns : goal.returns
returns g c =
    seen_due c.args.map.now c.args.files.now.schema c.args.files.now.source _ c.in_ok-by.by.value c.plan_opened.result (rw (c.as_slice.ensures, c.as_slice-2.ensures) at c.in_ok-by.ensures)
    (rw c.deref.ensures at c.plan_opened.ensures)

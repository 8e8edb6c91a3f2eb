use Rattle.std.proofs.Common.{Result, Ok}
use Rattle.std.proofs.lemmas.Result.{err_from_is_err_and}
use Rattle.deliveries.specs.declared.fetch.Stop.{Stop}
use Rattle.deliveries.specs.declared.plan.Plan.{Plan}
use Rattle.qbs.specs.ProveByView.{ProvesSeen}
use Rattle.qbs.specs.Pruners.{with_bank}
use Rattle.qbs.specs.Rewrite.{size_of, budget_of}
use Rattle.qbs.specs.Seen.{seen_by}
use Rattle.qbs.specs.Store.{IsBankOf, HasNoBank}
use Rattle.qbs.proofs.Going.{goes_on, stops_at}
use Rattle.qbs.proofs.prove_by_view.plan_opened.Goals as goal

pub returns-in_err-bank : goal.returns-in_err-bank
returns-in_err-bank g c =
    let p = err_from_is_err_and c.from_residual.result c.from_residual.ensures.1 in
    let tables = c.args.by.now.schema in
    let store = c.args.files.now.store in
    rw (p.1, p.2)
    (stops_at (IsBankOf tables store) (IsBankOf tables store) (HasNoBank tables store) _ c.in_err-bank.field-0.0 c.in_err-bank.ensures)

pub returns : goal.returns
returns g c =
    let tables = c.args.by.now.schema in
    let store = c.args.files.now.store in
    let plan : Result Plan Stop = Ok c.in_ok-plan_seen.field-0 in
    goes_on (IsBankOf tables store) (HasNoBank tables store)
    (λ bank. ProvesSeen (with_bank _ bank) c.args.by.now.map tables (size_of c.args.options.now) (budget_of c.args.options.now) c.args.files.now.source (seen_by c.args.by.now.seen))
    c.in_ok-bank.bank plan c.in_ok-bank.ensures (rw c.as_slice-source.ensures at c.in_ok-plan_seen.ensures)

pub plan_seen-requires-clause-seen : goal.plan_seen-requires-clause-seen
plan_seen-requires-clause-seen g c = rw c.as_slice-source.ensures c.requires.seen

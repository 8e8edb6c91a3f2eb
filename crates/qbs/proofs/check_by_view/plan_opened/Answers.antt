use Rattle.std.proofs.lemmas.Result.{err_from_is_err_and}
use Rattle.deriv_check.specs.Bundles.{entries_of}
use Rattle.deriv_check.specs.Grammar.{HasBundle}
use Rattle.plans.specs.Opening.{BreaksBundle, bundle_refusal}
use Rattle.deliveries.specs.Steps.{refused}
use Rattle.qbs.specs.Check.{checks}
use Rattle.qbs.specs.CheckByView.{seen_program}
use Rattle.qbs.specs.Seen.{seen_by}
use Rattle.qbs.proofs.Going.{goes_on, stops_at}
use Rattle.qbs.proofs.Seeing.{well_seen}
use Rattle.qbs.proofs.check_by_view.plan_opened.Goals as goal

pub plan_seen-requires : goal.plan_seen-requires
plan_seen-requires c = well_seen c.args.by.now.map c.args.by.now.schema c.args.source.now c.args.by.now.seen c.requires

pub returns-in_err-bundle : goal.returns-in_err-bundle
returns-in_err-bundle c =
    let p = err_from_is_err_and c.from_residual.result c.from_residual.ensures.1 in
    rw (p.1, p.2)
    (stops_at (λ x. HasBundle c.args.bundle.now (entries_of x)) (HasBundle c.args.bundle.now) (refused (BreaksBundle c.args.bundle.now) bundle_refusal)
    (λ entries. checks c.args.by.now.schema (seen_program (seen_by c.args.by.now.seen)) entries) c.in_err-bundle.field-0.0 c.in_err-bundle.ensures)

pub returns : goal.returns
returns c =
    goes_on (HasBundle c.args.bundle.now) (refused (BreaksBundle c.args.bundle.now) bundle_refusal) (λ entries. checks c.args.by.now.schema (seen_program (seen_by c.args.by.now.seen)) entries)
    (entries_of c.in_ok-bundle.bundle) c.plan_seen.result c.in_ok-bundle.ensures c.plan_seen.ensures

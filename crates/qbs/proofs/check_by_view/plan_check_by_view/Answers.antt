use Rattle.std.proofs.Common.{Some, refl, codes, ◌∷◌, []}
use Rattle.std.proofs.lemmas.Result.{err_from_is_err_and}
use Rattle.deliveries.specs.Limits.{most_map}
use Rattle.deliveries.specs.Plan.{Failed, given}
use Rattle.deliveries.specs.Reads.{looks}
use Rattle.deliveries.proofs.Reading.{reads_first, reads_then}
use Rattle.plans.proofs.Fetched.{failed_later}
use Rattle.qbs.specs.ByMap.{checks_by}
use Rattle.qbs.specs.Check.{reads_evidence}
use Rattle.qbs.proofs.Planned.{unread_there, read_on}
use Rattle.qbs.proofs.Seeing.{evidence_there}
use Rattle.qbs.proofs.check_by_view.plan_check_by_view.Goals as goal

pub returns-in_err-map-clause-due : goal.returns-in_err-map-clause-due
returns-in_err-map-clause-due g c =
    let p = err_from_is_err_and c.from_residual.result c.from_residual.ensures.1 in
    let told = g.F.Files.told c.args.files.now in
    let rose = Failed g.F.Files.faults g.F.Files.may_fail c.args.files.now c.fetch.new.files in
    let files = given g.F.Files.told g.F.Files.faults g.F.Files.may_fail c.args.files.now c.fetch.new.files in
    rw (p.1, p.2)
    (unread_there told told rose rose c.args.map.now most_map (codes "map")
    (λ w. reads_evidence files c.args.schema.now c.args.source.now c.args.bundle.now (λ s t b. checks_by (Some w) s t b))
    c.in_err-map.field-0.0 refl (λ name r. r) c.in_err-map.ensures.read)

pub returns-clause-due : goal.returns-clause-due
returns-clause-due g c =
    let told = g.F.Files.told c.args.files.now in
    let faults = g.F.Files.faults in
    let rose = Failed faults g.F.Files.may_fail c.args.files.now c.plan_check.new.files in
    let files = given g.F.Files.told g.F.Files.faults g.F.Files.may_fail c.args.files.now c.plan_check.new.files in
    read_on told told rose (Failed faults g.F.Files.may_fail c.args.files.now c.fetch.new.files) c.args.map.now most_map (codes "map")
    (λ w. reads_evidence files c.args.schema.now c.args.source.now c.args.bundle.now (λ s t b. checks_by (Some w) s t b))
    c.in_ok-map.map c.plan_check.result refl c.in_ok-map.ensures.read
    (evidence_there told (g.F.Files.told c.fetch.new.files) rose (Failed faults g.F.Files.may_fail c.fetch.new.files c.plan_check.new.files) c.fetch.ensures.same
    (failed_later faults g.F.Files.may_fail c.args.files.now c.fetch.new.files c.plan_check.new.files c.fetch.ensures.later c.fetch.ensures.fewer)
    c.args.schema.now c.args.source.now c.args.bundle.now _ c.plan_check.result c.plan_check.ensures.due)

pub returns-in_err-map-clause-reads : goal.returns-in_err-map-clause-reads
returns-in_err-map-clause-reads g c =
    reads_first (looks g.F.Files.told g.F.Files.faults g.F.Files.may_fail g.F.Files.by_read) c.args.map.now (c.args.schema.now ∷ c.args.source.now ∷ c.args.bundle.now ∷ []) c.args.files.now c.fetch.new.files
    c.fetch.ensures.once c.fetch.ensures.same c.fetch.ensures.later c.fetch.ensures.fewer

pub returns-clause-reads : goal.returns-clause-reads
returns-clause-reads g c =
    reads_then (looks g.F.Files.told g.F.Files.faults g.F.Files.may_fail g.F.Files.by_read) c.args.map.now (c.args.schema.now ∷ c.args.source.now ∷ c.args.bundle.now ∷ []) c.args.files.now c.fetch.new.files c.plan_check.new.files
    c.fetch.ensures.once c.fetch.ensures.same c.fetch.ensures.later c.fetch.ensures.fewer c.plan_check.ensures.reads

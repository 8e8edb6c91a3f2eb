use Rattle.std.proofs.Common.{List, ℕ, Err, subst, refl, ◌∙◌, codes, [], ◌∷◌}
use Rattle.std.proofs.lemmas.Result.{err_from_is_err_and}
use Rattle.deliveries.specs.Limits.{most_schema, most_source, most_bundle}
use Rattle.deliveries.specs.Code.{OrMemory}
use Rattle.deliveries.specs.Plan.{Failed, given}
use Rattle.deliveries.specs.Steps.{Ends, reads}
use Rattle.deliveries.specs.Reads.{looks}
use Rattle.deliveries.proofs.Reading.{reads_first, reads_then}
use Rattle.plans.proofs.Fetched.{failed_later, told_later}
use Rattle.qbs.specs.ByMap.{checks_by}
use Rattle.qbs.proofs.Planned.{unread_there, read_on}
use Rattle.qbs.proofs.check.plan_check.Goals as goal

pub returns-in_err-schema-clause-due : goal.returns-in_err-schema-clause-due
returns-in_err-schema-clause-due g c =
    let p = err_from_is_err_and c.from_residual.result c.from_residual.ensures.1 in
    let told = g.F.Files.told c.args.files.now in
    let rose = Failed g.F.Files.faults g.F.Files.may_fail c.args.files.now c.fetch_schema.new.files in
    let files = given g.F.Files.told g.F.Files.faults g.F.Files.may_fail c.args.files.now c.fetch_schema.new.files in
    rw (p.1, p.2)
    (unread_there told told rose rose c.args.schema.now most_schema (codes "schema")
    (λ s. reads files c.args.source.now most_source (codes "source") (λ t. reads files c.args.bundle.now most_bundle (codes "bundle") (λ b. checks_by c.args.map.now s t b)))
    c.in_err-schema.field-0.0 refl (λ name r. r) c.in_err-schema.ensures.read)

pub returns-in_err-source-clause-due : goal.returns-in_err-source-clause-due
returns-in_err-source-clause-due g c =
    let p = err_from_is_err_and c.from_residual-in_err-source.result c.from_residual-in_err-source.ensures.1 in
    let told = g.F.Files.told c.args.files.now in
    let faults = g.F.Files.faults in
    let rose = Failed faults g.F.Files.may_fail c.args.files.now c.fetch_source.new.files in
    let files = given g.F.Files.told g.F.Files.faults g.F.Files.may_fail c.args.files.now c.fetch_source.new.files in
    let further : List ℕ → List ℕ → Ends = λ (s : List ℕ) (t : List ℕ). reads files c.args.bundle.now most_bundle (codes "bundle") (λ b. checks_by c.args.map.now s t b) in
    rw (p.1, p.2)
    (read_on told told rose (Failed faults g.F.Files.may_fail c.args.files.now c.fetch_schema.new.files) c.args.schema.now most_schema (codes "schema") (λ s. reads files c.args.source.now most_source (codes "source") (λ t. further s t))
    c.in_ok-schema.schema (Err c.in_err-source.field-0.0) refl c.in_ok-schema.ensures.read
    (unread_there told (g.F.Files.told c.fetch_schema.new.files) rose (Failed faults g.F.Files.may_fail c.fetch_schema.new.files c.fetch_source.new.files) c.args.source.now most_source (codes "source") (λ t. further c.in_ok-schema.schema t)
    c.in_err-source.field-0.0 c.fetch_schema.ensures.same (failed_later faults g.F.Files.may_fail c.args.files.now c.fetch_schema.new.files c.fetch_source.new.files c.fetch_schema.ensures.later c.fetch_schema.ensures.fewer) c.in_err-source.ensures.read))

pub returns-in_err-bundle-clause-due : goal.returns-in_err-bundle-clause-due
returns-in_err-bundle-clause-due g c =
    let p = err_from_is_err_and c.from_residual-in_err-bundle.result c.from_residual-in_err-bundle.ensures.1 in
    let told = g.F.Files.told c.args.files.now in
    let faults = g.F.Files.faults in
    let rose = Failed faults g.F.Files.may_fail c.args.files.now c.fetch.new.files in
    let files = given g.F.Files.told g.F.Files.faults g.F.Files.may_fail c.args.files.now c.fetch.new.files in
    let further : List ℕ → List ℕ → Ends = λ (s : List ℕ) (t : List ℕ). reads files c.args.bundle.now most_bundle (codes "bundle") (λ b. checks_by c.args.map.now s t b) in
    rw (p.1, p.2)
    (read_on told told rose (Failed faults g.F.Files.may_fail c.args.files.now c.fetch_schema.new.files) c.args.schema.now most_schema (codes "schema") (λ s. reads files c.args.source.now most_source (codes "source") (λ t. further s t))
    c.in_ok-schema.schema (Err c.in_err-bundle.field-0.0) refl c.in_ok-schema.ensures.read
    (read_on told (g.F.Files.told c.fetch_schema.new.files) rose (Failed faults g.F.Files.may_fail c.fetch_schema.new.files c.fetch_source.new.files) c.args.source.now most_source (codes "source") (λ t. further c.in_ok-schema.schema t)
    c.in_ok-source.source (Err c.in_err-bundle.field-0.0) c.fetch_schema.ensures.same c.in_ok-source.ensures.read
    (unread_there told (g.F.Files.told c.fetch_source.new.files) rose (Failed faults g.F.Files.may_fail c.fetch_source.new.files c.fetch.new.files) c.args.bundle.now most_bundle (codes "bundle") (λ b. checks_by c.args.map.now c.in_ok-schema.schema c.in_ok-source.source b)
    c.in_err-bundle.field-0.0 (c.fetch_source.ensures.same ∙ c.fetch_schema.ensures.same)
    (failed_later faults g.F.Files.may_fail c.args.files.now c.fetch_source.new.files c.fetch.new.files (told_later (faults c.args.files.now) (faults c.fetch_schema.new.files) (faults c.fetch_source.new.files) c.fetch_schema.ensures.later c.fetch_source.ensures.later) (λ name h. c.fetch_schema.ensures.fewer name (c.fetch_source.ensures.fewer name h)))
    c.in_err-bundle.ensures.read)))

pub returns-clause-due : goal.returns-clause-due
returns-clause-due g c =
    let told = g.F.Files.told c.args.files.now in
    let faults = g.F.Files.faults in
    let rose = Failed faults g.F.Files.may_fail c.args.files.now c.fetch.new.files in
    let files = given g.F.Files.told g.F.Files.faults g.F.Files.may_fail c.args.files.now c.fetch.new.files in
    let further : List ℕ → List ℕ → Ends = λ (s : List ℕ) (t : List ℕ). reads files c.args.bundle.now most_bundle (codes "bundle") (λ b. checks_by c.args.map.now s t b) in
    read_on told told rose (Failed faults g.F.Files.may_fail c.args.files.now c.fetch_schema.new.files) c.args.schema.now most_schema (codes "schema") (λ s. reads files c.args.source.now most_source (codes "source") (λ t. further s t))
    c.in_ok-schema.schema c.plan_texts.result refl c.in_ok-schema.ensures.read
    (read_on told (g.F.Files.told c.fetch_schema.new.files) rose (Failed faults g.F.Files.may_fail c.fetch_schema.new.files c.fetch_source.new.files) c.args.source.now most_source (codes "source") (λ t. further c.in_ok-schema.schema t)
    c.in_ok-source.source c.plan_texts.result c.fetch_schema.ensures.same c.in_ok-source.ensures.read
    (read_on told (g.F.Files.told c.fetch_source.new.files) rose (Failed faults g.F.Files.may_fail c.fetch_source.new.files c.fetch.new.files) c.args.bundle.now most_bundle (codes "bundle") (λ b. checks_by c.args.map.now c.in_ok-schema.schema c.in_ok-source.source b)
    c.in_ok-bundle.bundle c.plan_texts.result (c.fetch_source.ensures.same ∙ c.fetch_schema.ensures.same) c.in_ok-bundle.ensures.read
    (subst (λ (b : List ℕ). OrMemory c.plan_texts.result (checks_by c.args.map.now c.in_ok-schema.schema c.in_ok-source.source b)) c.as_slice-3.ensures
    (subst (λ (t : List ℕ). OrMemory c.plan_texts.result (checks_by c.args.map.now c.in_ok-schema.schema t c.as_slice-3.result.now)) c.as_slice-2.ensures
    (subst (λ (s : List ℕ). OrMemory c.plan_texts.result (checks_by c.args.map.now s c.as_slice-2.result.now c.as_slice-3.result.now)) c.as_slice.ensures c.plan_texts.ensures)))))

pub returns-in_err-schema-clause-reads : goal.returns-in_err-schema-clause-reads
returns-in_err-schema-clause-reads g c = reads_first (looks g.F.Files.told g.F.Files.faults g.F.Files.may_fail g.F.Files.by_read) c.args.schema.now (c.args.source.now ∷ c.args.bundle.now ∷ []) c.args.files.now c.fetch_schema.new.files c.fetch_schema.ensures.once c.fetch_schema.ensures.same c.fetch_schema.ensures.later c.fetch_schema.ensures.fewer

pub returns-in_err-source-clause-reads : goal.returns-in_err-source-clause-reads
returns-in_err-source-clause-reads g c =
    reads_then (looks g.F.Files.told g.F.Files.faults g.F.Files.may_fail g.F.Files.by_read) c.args.schema.now (c.args.source.now ∷ c.args.bundle.now ∷ []) c.args.files.now c.fetch_schema.new.files c.fetch_source.new.files c.fetch_schema.ensures.once c.fetch_schema.ensures.same c.fetch_schema.ensures.later c.fetch_schema.ensures.fewer
    (reads_first (looks g.F.Files.told g.F.Files.faults g.F.Files.may_fail g.F.Files.by_read) c.args.source.now (c.args.bundle.now ∷ []) c.fetch_schema.new.files c.fetch_source.new.files c.fetch_source.ensures.once c.fetch_source.ensures.same c.fetch_source.ensures.later c.fetch_source.ensures.fewer)

pub returns-in_err-bundle-clause-reads : goal.returns-in_err-bundle-clause-reads
returns-in_err-bundle-clause-reads g c =
    reads_then (looks g.F.Files.told g.F.Files.faults g.F.Files.may_fail g.F.Files.by_read) c.args.schema.now (c.args.source.now ∷ c.args.bundle.now ∷ []) c.args.files.now c.fetch_schema.new.files c.fetch.new.files c.fetch_schema.ensures.once c.fetch_schema.ensures.same c.fetch_schema.ensures.later c.fetch_schema.ensures.fewer
    (reads_then (looks g.F.Files.told g.F.Files.faults g.F.Files.may_fail g.F.Files.by_read) c.args.source.now (c.args.bundle.now ∷ []) c.fetch_schema.new.files c.fetch_source.new.files c.fetch.new.files c.fetch_source.ensures.once c.fetch_source.ensures.same c.fetch_source.ensures.later c.fetch_source.ensures.fewer
    (reads_first (looks g.F.Files.told g.F.Files.faults g.F.Files.may_fail g.F.Files.by_read) c.args.bundle.now [] c.fetch_source.new.files c.fetch.new.files c.fetch.ensures.once c.fetch.ensures.same c.fetch.ensures.later c.fetch.ensures.fewer))

pub returns-clause-reads : goal.returns-clause-reads
returns-clause-reads g c =
    reads_then (looks g.F.Files.told g.F.Files.faults g.F.Files.may_fail g.F.Files.by_read) c.args.schema.now (c.args.source.now ∷ c.args.bundle.now ∷ []) c.args.files.now c.fetch_schema.new.files c.fetch.new.files c.fetch_schema.ensures.once c.fetch_schema.ensures.same c.fetch_schema.ensures.later c.fetch_schema.ensures.fewer
    (reads_then (looks g.F.Files.told g.F.Files.faults g.F.Files.may_fail g.F.Files.by_read) c.args.source.now (c.args.bundle.now ∷ []) c.fetch_schema.new.files c.fetch_source.new.files c.fetch.new.files c.fetch_source.ensures.once c.fetch_source.ensures.same c.fetch_source.ensures.later c.fetch_source.ensures.fewer
    (reads_first (looks g.F.Files.told g.F.Files.faults g.F.Files.may_fail g.F.Files.by_read) c.args.bundle.now [] c.fetch_source.new.files c.fetch.new.files c.fetch.ensures.once c.fetch.ensures.same c.fetch.ensures.later c.fetch.ensures.fewer))

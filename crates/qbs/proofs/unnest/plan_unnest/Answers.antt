use Rattle.std.proofs.Common.{List, ℕ, [], ◌∷◌, subst}
use Rattle.std.proofs.lemmas.Result.{err_from_is_err_and}
use Rattle.deliveries.specs.Code.{OrMemory}
use Rattle.deliveries.specs.Plan.{Failed, given}
use Rattle.deliveries.specs.Reads.{looks}
use Rattle.deliveries.proofs.Reading.{reads_first, reads_then}
use Rattle.plans.proofs.Fetched.{failed_later}
use Rattle.qbs.specs.Unnest.{unnest_of}
use Rattle.qbs.proofs.Planned.{first_unread, second_unread, both_read}
use Rattle.qbs.proofs.unnest.plan_unnest.Goals as goal

pub returns-in_err-schema-clause-due : goal.returns-in_err-schema-clause-due
returns-in_err-schema-clause-due g c =
    let p = err_from_is_err_and c.from_residual.result c.from_residual.ensures.1 in
    rw (p.1, p.2)
    (first_unread (given g.F.Files.told g.F.Files.faults g.F.Files.may_fail c.args.files.now c.fetch_schema.new.files) c.args.schema.now c.args.source.now (λ s t. unnest_of c.args.options.now s t) c.in_err-schema.field-0.0 c.in_err-schema.ensures.read)

pub returns-in_err-source-clause-due : goal.returns-in_err-source-clause-due
returns-in_err-source-clause-due g c =
    let p = err_from_is_err_and c.from_residual-in_err-source.result c.from_residual-in_err-source.ensures.1 in
    rw (p.1, p.2)
    (second_unread (g.F.Files.told c.args.files.now) (g.F.Files.told c.fetch_schema.new.files) (Failed g.F.Files.faults g.F.Files.may_fail c.args.files.now c.fetch_source.new.files) (Failed g.F.Files.faults g.F.Files.may_fail c.fetch_schema.new.files c.fetch_source.new.files)
    c.args.schema.now c.args.source.now (λ s t. unnest_of c.args.options.now s t) c.in_ok-schema.schema c.in_err-source.field-0.0
    c.fetch_schema.ensures.same (failed_later g.F.Files.faults g.F.Files.may_fail c.args.files.now c.fetch_schema.new.files c.fetch_source.new.files c.fetch_schema.ensures.later c.fetch_schema.ensures.fewer)
    c.in_ok-schema.ensures.read c.in_err-source.ensures.read)

pub returns-clause-due : goal.returns-clause-due
returns-clause-due g c =
    both_read (g.F.Files.told c.args.files.now) (g.F.Files.told c.fetch_schema.new.files) (Failed g.F.Files.faults g.F.Files.may_fail c.args.files.now c.fetch_source.new.files) (Failed g.F.Files.faults g.F.Files.may_fail c.fetch_schema.new.files c.fetch_source.new.files)
    c.args.schema.now c.args.source.now (λ s t. unnest_of c.args.options.now s t) c.in_ok-schema.schema c.in_ok-source.source c.plan_texts.result
    c.fetch_schema.ensures.same c.in_ok-schema.ensures.read c.in_ok-source.ensures.read
    (subst (λ (x : List ℕ). OrMemory c.plan_texts.result (unnest_of c.args.options.now c.in_ok-schema.schema x)) c.as_slice-2.ensures (subst (λ (x : List ℕ). OrMemory c.plan_texts.result (unnest_of c.args.options.now x c.as_slice-2.result.now)) c.as_slice.ensures c.plan_texts.ensures))

pub returns-in_err-schema-clause-reads : goal.returns-in_err-schema-clause-reads
returns-in_err-schema-clause-reads g c = reads_first (looks g.F.Files.told g.F.Files.faults g.F.Files.may_fail g.F.Files.by_read) c.args.schema.now (c.args.source.now ∷ []) c.args.files.now c.fetch_schema.new.files c.fetch_schema.ensures.once c.fetch_schema.ensures.same c.fetch_schema.ensures.later c.fetch_schema.ensures.fewer

pub returns-in_err-source-clause-reads : goal.returns-in_err-source-clause-reads
returns-in_err-source-clause-reads g c =
    reads_then (looks g.F.Files.told g.F.Files.faults g.F.Files.may_fail g.F.Files.by_read) c.args.schema.now (c.args.source.now ∷ []) c.args.files.now c.fetch_schema.new.files c.fetch_source.new.files c.fetch_schema.ensures.once c.fetch_schema.ensures.same c.fetch_schema.ensures.later c.fetch_schema.ensures.fewer
    (reads_first (looks g.F.Files.told g.F.Files.faults g.F.Files.may_fail g.F.Files.by_read) c.args.source.now [] c.fetch_schema.new.files c.fetch_source.new.files c.fetch_source.ensures.once c.fetch_source.ensures.same c.fetch_source.ensures.later c.fetch_source.ensures.fewer)

pub returns-clause-reads : goal.returns-clause-reads
returns-clause-reads g c =
    reads_then (looks g.F.Files.told g.F.Files.faults g.F.Files.may_fail g.F.Files.by_read) c.args.schema.now (c.args.source.now ∷ []) c.args.files.now c.fetch_schema.new.files c.fetch_source.new.files c.fetch_schema.ensures.once c.fetch_schema.ensures.same c.fetch_schema.ensures.later c.fetch_schema.ensures.fewer
    (reads_first (looks g.F.Files.told g.F.Files.faults g.F.Files.may_fail g.F.Files.by_read) c.args.source.now [] c.fetch_schema.new.files c.fetch_source.new.files c.fetch_source.ensures.once c.fetch_source.ensures.same c.fetch_source.ensures.later c.fetch_source.ensures.fewer)

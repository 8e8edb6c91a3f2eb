use Rattle.std.proofs.Common.{List, ℕ, ◌++◌, subst, ◌∙◌, ap, length, refl}
use Rattle.std.proofs.lemmas.Result.{err_from_is_err_and}
use Rattle.qbs_base.specs.declared.columns.Table.{Table}
use Rattle.deliveries.specs.Code.{OrMemory}
use Rattle.deliveries.specs.Limits.{most_tables}
use Rattle.deliveries.specs.Plan.{Failed, given}
use Rattle.deliveries.specs.Reads.{looks}
use Rattle.plans.proofs.Fetched.{as_many}
use Rattle.qbs.specs.Code.{call_in}
use Rattle.qbs.specs.Run.{run_of}
use Rattle.qbs.proofs.Ordered.{no_tables, tables_read}
use Rattle.qbs.proofs.Planned.{no_schema, no_texts, has_texts}
use Rattle.qbs.proofs.run.plan_tables.Goals as goal

pub plan_source-requires-clause-tables : goal.plan_source-requires-clause-tables
plan_source-requires-clause-tables g c =
    let r = c.in_ok-fetch_tables.ensures.read in
    ap (λ (ts : List (List ℕ)). length ts) (c.as_slice.ensures ∙ r.1 ∙ ap (λ (ts : List (List ℕ)). ts ++ r.0) c.new-texts.ensures)
    ∙ as_many (given g.F.Files.told g.F.Files.faults g.F.Files.may_fail c.args.files.now c.fetch_tables.new.files) c.args.folder.now c.tables.result.now most_tables r.0 r.2
    ∙ ap (λ (ts : List Table). length ts) c.tables.ensures.value

pub returns-in_err-schema-clause-due : goal.returns-in_err-schema-clause-due
returns-in_err-schema-clause-due g c =
    let p = err_from_is_err_and c.from_residual.result c.from_residual.ensures.1 in
    rw (p.1, p.2)
    (no_schema (given g.F.Files.told g.F.Files.faults g.F.Files.may_fail c.args.files.now c.args.files.now) c.args.folder.now c.args.schema.now (λ tables texts. run_of c.args.options.now tables (call_in c.args.call.now) c.args.source.now texts) c.in_err-schema.field-0.0 c.in_err-schema.ensures)

pub returns-in_err-fetch_tables-clause-due : goal.returns-in_err-fetch_tables-clause-due
returns-in_err-fetch_tables-clause-due g c =
    let p = err_from_is_err_and c.from_residual-in_err-fetch_tables.result c.from_residual-in_err-fetch_tables.ensures.1 in
    rw (p.1, p.2)
    (no_texts (Unit {0}) (g.F.Files.told c.args.files.now) (g.F.Files.told c.args.files.now) (Failed g.F.Files.faults g.F.Files.may_fail c.args.files.now c.fetch_tables.new.files) (Failed g.F.Files.faults g.F.Files.may_fail c.args.files.now c.fetch_tables.new.files)
    c.args.folder.now c.args.schema.now (λ tables texts. run_of c.args.options.now tables (call_in c.args.call.now) c.args.source.now texts) c.in_ok-schema.schema c.tables.result.now c.new-texts.result c.fetch_tables.new.texts c.in_err-fetch_tables.field-0.0
    refl (λ name failed. failed) c.in_ok-schema.ensures c.tables.ensures.value c.in_err-fetch_tables.ensures.read)

pub returns-clause-due : goal.returns-clause-due
returns-clause-due g c =
    has_texts (Unit {0}) (g.F.Files.told c.args.files.now) (g.F.Files.told c.args.files.now) (Failed g.F.Files.faults g.F.Files.may_fail c.args.files.now c.fetch_tables.new.files) (Failed g.F.Files.faults g.F.Files.may_fail c.args.files.now c.fetch_tables.new.files)
    c.args.folder.now c.args.schema.now (λ tables texts. run_of c.args.options.now tables (call_in c.args.call.now) c.args.source.now texts) c.in_ok-schema.schema c.tables.result.now _ c.fetch_tables.new.texts tt c.plan_source.result
    refl c.in_ok-schema.ensures c.tables.ensures.value c.new-texts.ensures c.in_ok-fetch_tables.ensures.read
    (subst (λ (ts : List (List ℕ)). OrMemory c.plan_source.result (run_of c.args.options.now c.in_ok-schema.schema (call_in c.args.call.now) c.args.source.now ts)) c.as_slice.ensures c.plan_source.ensures)

pub returns-in_err-schema-clause-reads : goal.returns-in_err-schema-clause-reads
returns-in_err-schema-clause-reads g c = no_tables (looks g.F.Files.told g.F.Files.faults g.F.Files.may_fail g.F.Files.by_read) c.args.folder.now c.args.schema.now c.args.files.now

pub returns-in_err-fetch_tables-clause-reads : goal.returns-in_err-fetch_tables-clause-reads
returns-in_err-fetch_tables-clause-reads g c =
    tables_read (looks g.F.Files.told g.F.Files.faults g.F.Files.may_fail g.F.Files.by_read) c.args.folder.now c.args.schema.now c.in_ok-schema.schema c.tables.result.now c.args.files.now c.fetch_tables.new.files c.in_ok-schema.ensures c.tables.ensures.value c.fetch_tables.ensures.only

pub returns-clause-reads : goal.returns-clause-reads
returns-clause-reads g c =
    tables_read (looks g.F.Files.told g.F.Files.faults g.F.Files.may_fail g.F.Files.by_read) c.args.folder.now c.args.schema.now c.in_ok-schema.schema c.tables.result.now c.args.files.now c.fetch_tables.new.files c.in_ok-schema.ensures c.tables.ensures.value c.fetch_tables.ensures.only

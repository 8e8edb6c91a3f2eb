use Rattle.std.proofs.Common.{List, ℕ, subst, []}
use Rattle.std.proofs.lemmas.Result.{err_from_is_err_and}
use Rattle.deliveries.specs.Code.{OrMemory}
use Rattle.deliveries.specs.Plan.{Failed, given}
use Rattle.plans.specs.Tables.{over_tables}
use Rattle.deliveries.specs.Reads.{looks}
use Rattle.plans.proofs.Fetched.{failed_later}
use Rattle.qbs.specs.Sql.{sql_of}
use Rattle.qbs.proofs.Ordered.{one_read, then_tables}
use Rattle.qbs.proofs.Planned.{schema_read, schema_unread, over_there}
use Rattle.qbs.proofs.sql.plan_sql.Goals as goal

pub returns-in_err-schema-clause-due : goal.returns-in_err-schema-clause-due
returns-in_err-schema-clause-due g c =
    let p = err_from_is_err_and c.from_residual.result c.from_residual.ensures.1 in
    rw (p.1, p.2)
    (schema_unread (given g.F.Files.told g.F.Files.faults g.F.Files.may_fail c.args.files.now c.fetch_schema.new.files) c.args.schema.now
    (λ s. over_tables (given g.F.Files.told g.F.Files.faults g.F.Files.may_fail c.args.files.now c.fetch_schema.new.files) c.args.folder.now s (λ tables texts. sql_of tables c.args.query.now texts)) c.in_err-schema.field-0.0 c.in_err-schema.ensures.read)

pub returns-clause-due : goal.returns-clause-due
returns-clause-due g c =
    schema_read (g.F.Files.told c.args.files.now) (g.F.Files.told c.fetch_schema.new.files) (Failed g.F.Files.faults g.F.Files.may_fail c.args.files.now c.plan_tables.new.files) (Failed g.F.Files.faults g.F.Files.may_fail c.args.files.now c.fetch_schema.new.files)
    c.args.schema.now (λ s. over_tables (given g.F.Files.told g.F.Files.faults g.F.Files.may_fail c.args.files.now c.plan_tables.new.files) c.args.folder.now s (λ tables texts. sql_of tables c.args.query.now texts)) c.in_ok-schema.schema c.plan_tables.result
    c.in_ok-schema.ensures.read
    (over_there (g.F.Files.told c.args.files.now) (g.F.Files.told c.fetch_schema.new.files) (Failed g.F.Files.faults g.F.Files.may_fail c.args.files.now c.plan_tables.new.files) (Failed g.F.Files.faults g.F.Files.may_fail c.fetch_schema.new.files c.plan_tables.new.files)
    c.args.folder.now c.in_ok-schema.schema (λ tables texts. sql_of tables c.args.query.now texts) c.plan_tables.result
    c.fetch_schema.ensures.same (failed_later g.F.Files.faults g.F.Files.may_fail c.args.files.now c.fetch_schema.new.files c.plan_tables.new.files c.fetch_schema.ensures.later c.fetch_schema.ensures.fewer)
    (subst (λ (s : List ℕ). OrMemory c.plan_tables.result (over_tables (given g.F.Files.told g.F.Files.faults g.F.Files.may_fail c.fetch_schema.new.files c.plan_tables.new.files) c.args.folder.now s (λ tables texts. sql_of tables c.args.query.now texts))) c.as_slice.ensures c.plan_tables.ensures.due))

pub returns-in_err-schema-clause-reads : goal.returns-in_err-schema-clause-reads
returns-in_err-schema-clause-reads g c =
    one_read (looks g.F.Files.told g.F.Files.faults g.F.Files.may_fail g.F.Files.by_read) c.args.schema.now [] c.args.folder.now c.args.schema.now c.args.files.now c.fetch_schema.new.files
    c.fetch_schema.ensures.once c.fetch_schema.ensures.same c.fetch_schema.ensures.later c.fetch_schema.ensures.fewer

pub returns-clause-reads : goal.returns-clause-reads
returns-clause-reads g c =
    then_tables (looks g.F.Files.told g.F.Files.faults g.F.Files.may_fail g.F.Files.by_read) c.args.schema.now c.args.folder.now c.args.schema.now c.in_ok-schema.schema c.as_slice.result.now c.args.files.now c.fetch_schema.new.files c.plan_tables.new.files
    c.fetch_schema.ensures.once c.fetch_schema.ensures.same c.fetch_schema.ensures.later c.fetch_schema.ensures.fewer
    c.as_slice.ensures c.in_ok-schema.ensures.read.1 c.plan_tables.ensures.reads

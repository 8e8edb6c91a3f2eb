use Rattle.std.proofs.Common.{◌∷◌}
use Rattle.deliveries.specs.Reads.{looks}
use Rattle.deliveries.proofs.Reading.{reads_first, reads_then}
use Rattle.qbs.specs.Store.{store_names}
use Rattle.qbs.proofs.opened.fetch_files.Goals as goal

pub returns-in_err-schema-clause-reads : goal.returns-in_err-schema-clause-reads
returns-in_err-schema-clause-reads g c = reads_first (looks g.F.Files.told g.F.Files.faults g.F.Files.may_fail g.F.Files.by_read) c.args.schema.now (c.args.source.now ∷ store_names c.args.store.now) c.args.files.now c.fetch_schema.new.files c.fetch_schema.ensures.once c.fetch_schema.ensures.same c.fetch_schema.ensures.later c.fetch_schema.ensures.fewer

pub returns-in_err-source-clause-reads : goal.returns-in_err-source-clause-reads
returns-in_err-source-clause-reads g c =
    reads_then (looks g.F.Files.told g.F.Files.faults g.F.Files.may_fail g.F.Files.by_read) c.args.schema.now (c.args.source.now ∷ store_names c.args.store.now) c.args.files.now c.fetch_schema.new.files c.fetch_source.new.files c.fetch_schema.ensures.once c.fetch_schema.ensures.same c.fetch_schema.ensures.later c.fetch_schema.ensures.fewer
    (reads_first (looks g.F.Files.told g.F.Files.faults g.F.Files.may_fail g.F.Files.by_read) c.args.source.now (store_names c.args.store.now) c.fetch_schema.new.files c.fetch_source.new.files c.fetch_source.ensures.once c.fetch_source.ensures.same c.fetch_source.ensures.later c.fetch_source.ensures.fewer)

pub returns-in_err-store-clause-reads : goal.returns-in_err-store-clause-reads
returns-in_err-store-clause-reads g c =
    reads_then (looks g.F.Files.told g.F.Files.faults g.F.Files.may_fail g.F.Files.by_read) c.args.schema.now (c.args.source.now ∷ store_names c.args.store.now) c.args.files.now c.fetch_schema.new.files c.fetch_store.new.files c.fetch_schema.ensures.once c.fetch_schema.ensures.same c.fetch_schema.ensures.later c.fetch_schema.ensures.fewer
    (reads_then (looks g.F.Files.told g.F.Files.faults g.F.Files.may_fail g.F.Files.by_read) c.args.source.now (store_names c.args.store.now) c.fetch_schema.new.files c.fetch_source.new.files c.fetch_store.new.files c.fetch_source.ensures.once c.fetch_source.ensures.same c.fetch_source.ensures.later c.fetch_source.ensures.fewer c.fetch_store.ensures.reads)

pub returns-in_err-new-clause-reads : goal.returns-in_err-new-clause-reads
returns-in_err-new-clause-reads g c =
    reads_then (looks g.F.Files.told g.F.Files.faults g.F.Files.may_fail g.F.Files.by_read) c.args.schema.now (c.args.source.now ∷ store_names c.args.store.now) c.args.files.now c.fetch_schema.new.files c.fetch_store.new.files c.fetch_schema.ensures.once c.fetch_schema.ensures.same c.fetch_schema.ensures.later c.fetch_schema.ensures.fewer
    (reads_then (looks g.F.Files.told g.F.Files.faults g.F.Files.may_fail g.F.Files.by_read) c.args.source.now (store_names c.args.store.now) c.fetch_schema.new.files c.fetch_source.new.files c.fetch_store.new.files c.fetch_source.ensures.once c.fetch_source.ensures.same c.fetch_source.ensures.later c.fetch_source.ensures.fewer c.fetch_store.ensures.reads)

pub returns-clause-reads : goal.returns-clause-reads
returns-clause-reads g c =
    reads_then (looks g.F.Files.told g.F.Files.faults g.F.Files.may_fail g.F.Files.by_read) c.args.schema.now (c.args.source.now ∷ store_names c.args.store.now) c.args.files.now c.fetch_schema.new.files c.fetch_store.new.files c.fetch_schema.ensures.once c.fetch_schema.ensures.same c.fetch_schema.ensures.later c.fetch_schema.ensures.fewer
    (reads_then (looks g.F.Files.told g.F.Files.faults g.F.Files.may_fail g.F.Files.by_read) c.args.source.now (store_names c.args.store.now) c.fetch_schema.new.files c.fetch_source.new.files c.fetch_store.new.files c.fetch_source.ensures.once c.fetch_source.ensures.same c.fetch_source.ensures.later c.fetch_source.ensures.fewer c.fetch_store.ensures.reads)

use Rattle.std.proofs.Common.{◌∷◌}
use Rattle.std.proofs.lemmas.Result.{err_from_is_err_and}
use Rattle.deliveries.specs.Plan.{Failed}
use Rattle.deliveries.specs.Reads.{looks}
use Rattle.deliveries.proofs.Reading.{reads_first, reads_then}
use Rattle.plans.proofs.Fetched.{failed_later}
use Rattle.qbs.specs.Store.{store_names}
use Rattle.qbs.proofs.WrittenBack.{words_unread, rest_unread, all_read_on}
use Rattle.qbs.proofs.by_view.plan_by_view.Goals as goal

pub returns-in_err-map-clause-due : goal.returns-in_err-map-clause-due
returns-in_err-map-clause-due g c =
    let p = err_from_is_err_and c.from_residual.result c.from_residual.ensures.1 in
    rw (p.1, p.2)
    (words_unread _ c.args.options.now (g.F.Files.told c.args.files.now) (Failed g.F.Files.faults g.F.Files.may_fail c.args.files.now c.fetch.new.files) c.args.map.now c.args.schema.now c.args.source.now
    c.in_err-map.field-0.0 c.in_err-map.ensures.read)

pub returns-in_err-fetched-clause-due : goal.returns-in_err-fetched-clause-due
returns-in_err-fetched-clause-due g c =
    let p = err_from_is_err_and c.from_residual-in_err-fetched.result c.from_residual-in_err-fetched.ensures.1 in
    let told = g.F.Files.told in
    let faults = g.F.Files.faults in
    let may_fail = g.F.Files.may_fail in
    let old = c.args.files.now in
    let middle = c.fetch.new.files in
    let new = c.fetch_files.new.files in
    rw (p.1, p.2)
    (rest_unread _ c.args.options.now (told old) (Failed faults may_fail old new) c.args.map.now c.args.schema.now c.args.source.now
    _ (told middle) (Failed faults may_fail old middle) (Failed faults may_fail middle new) c.in_ok-map.map c.in_err-fetched.field-0.0 c.fetch.ensures.same
    (failed_later faults may_fail old middle new c.fetch.ensures.later c.fetch.ensures.fewer) c.in_ok-map.ensures.read c.in_err-fetched.ensures.read)

pub returns-clause-due : goal.returns-clause-due
returns-clause-due g c =
    let told = g.F.Files.told in
    let faults = g.F.Files.faults in
    let may_fail = g.F.Files.may_fail in
    let old = c.args.files.now in
    let middle = c.fetch.new.files in
    let new = c.fetch_files.new.files in
    let fetched = c.in_ok-fetched.fetched.value in
    all_read_on _ c.args.options.now (told old) (Failed faults may_fail old new) c.args.map.now c.args.schema.now c.args.source.now
    (told middle) (Failed faults may_fail old middle) (Failed faults may_fail middle new) c.in_ok-map.map fetched.schema fetched.source fetched.store c.plan_texts.result c.fetch.ensures.same
    c.in_ok-map.ensures.read c.in_ok-fetched.ensures.read
    (rw (c.as_slice.ensures, c.deref.ensures) at c.plan_texts.ensures)

pub returns-in_err-map-clause-reads : goal.returns-in_err-map-clause-reads
returns-in_err-map-clause-reads g c =
    reads_first (looks g.F.Files.told g.F.Files.faults g.F.Files.may_fail g.F.Files.by_read) c.args.map.now (c.args.schema.now ∷ c.args.source.now ∷ store_names c.args.options.now.store)
    c.args.files.now c.fetch.new.files c.fetch.ensures.once c.fetch.ensures.same c.fetch.ensures.later c.fetch.ensures.fewer

pub returns-in_err-fetched-clause-reads : goal.returns-in_err-fetched-clause-reads
returns-in_err-fetched-clause-reads g c =
    reads_then (looks g.F.Files.told g.F.Files.faults g.F.Files.may_fail g.F.Files.by_read) c.args.map.now (c.args.schema.now ∷ c.args.source.now ∷ store_names c.args.options.now.store)
    c.args.files.now c.fetch.new.files c.fetch_files.new.files c.fetch.ensures.once c.fetch.ensures.same c.fetch.ensures.later c.fetch.ensures.fewer c.fetch_files.ensures.reads

pub returns-clause-reads : goal.returns-clause-reads
returns-clause-reads g c =
    reads_then (looks g.F.Files.told g.F.Files.faults g.F.Files.may_fail g.F.Files.by_read) c.args.map.now (c.args.schema.now ∷ c.args.source.now ∷ store_names c.args.options.now.store)
    c.args.files.now c.fetch.new.files c.fetch_files.new.files c.fetch.ensures.once c.fetch.ensures.same c.fetch.ensures.later c.fetch.ensures.fewer c.fetch_files.ensures.reads

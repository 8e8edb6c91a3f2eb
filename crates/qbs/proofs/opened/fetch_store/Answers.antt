use Rattle.std.proofs.Common.{List, ℕ, [], Option, subst, sym}
use Rattle.deliveries.specs.Reads.{looks, OnlyReads}
use Rattle.deliveries.proofs.Reading.{reads_none, reads_first}
use Rattle.qbs.specs.Store.{store_names}
use Rattle.qbs.proofs.opened.fetch_store.Goals as goal

pub returns-in-None-clause-reads : goal.returns-in-None-clause-reads
returns-in-None-clause-reads g c = reads_none (looks g.F.Files.told g.F.Files.faults g.F.Files.may_fail g.F.Files.by_read) (store_names c.args.name.now) c.args.files.now

pub returns-in_err-bytes-in-Some-clause-reads : goal.returns-in_err-bytes-in-Some-clause-reads
returns-in_err-bytes-in-Some-clause-reads g c =
    let l = (looks g.F.Files.told g.F.Files.faults g.F.Files.may_fail g.F.Files.by_read) in
    subst (λ (o : Option (List ℕ)). OnlyReads l (store_names o) c.args.files.now c.fetch.new.files) (sym c.in-Some.is)
    (reads_first l c.in-Some.name [] c.args.files.now c.fetch.new.files c.fetch.ensures.once c.fetch.ensures.same c.fetch.ensures.later c.fetch.ensures.fewer)

pub returns-in_ok-bytes-in-Some-clause-reads : goal.returns-in_ok-bytes-in-Some-clause-reads
returns-in_ok-bytes-in-Some-clause-reads g c =
    let l = (looks g.F.Files.told g.F.Files.faults g.F.Files.may_fail g.F.Files.by_read) in
    subst (λ (o : Option (List ℕ)). OnlyReads l (store_names o) c.args.files.now c.fetch.new.files) (sym c.in-Some.is)
    (reads_first l c.in-Some.name [] c.args.files.now c.fetch.new.files c.fetch.ensures.once c.fetch.ensures.same c.fetch.ensures.later c.fetch.ensures.fewer)

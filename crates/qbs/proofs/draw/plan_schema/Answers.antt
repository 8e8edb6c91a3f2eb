use Rattle.std.proofs.Common.{List, ℕ, subst, refl, codes, []}
use Rattle.std.proofs.lemmas.Result.{err_from_is_err_and}
use Rattle.deliveries.specs.Code.{OrMemory}
use Rattle.deliveries.specs.Limits.{most_dump}
use Rattle.deliveries.specs.Plan.{Failed}
use Rattle.deliveries.specs.Reads.{looks}
use Rattle.deliveries.proofs.Reading.{reads_first}
use Rattle.qbs.specs.Draw.{Draws}
use Rattle.qbs.proofs.Planned.{unread_there, read_on}
use Rattle.qbs.proofs.draw.plan_schema.Goals as goal

pub returns-in_err-bytes-clause-due : goal.returns-in_err-bytes-clause-due
returns-in_err-bytes-clause-due g c =
    let p = err_from_is_err_and c.from_residual.result c.from_residual.ensures.1 in
    let told = g.F.Files.told c.args.files.now in
    let rose = Failed g.F.Files.faults g.F.Files.may_fail c.args.files.now c.fetch.new.files in
    rw (p.1, p.2)
    (unread_there told told rose rose c.args.dump.now most_dump (codes "dump") (λ bytes. Draws c.args.options.now bytes) c.in_err-bytes.field-0.0 refl (λ name r. r) c.in_err-bytes.ensures.read)

pub returns-clause-due : goal.returns-clause-due
returns-clause-due g c =
    let told = g.F.Files.told c.args.files.now in
    let rose = Failed g.F.Files.faults g.F.Files.may_fail c.args.files.now c.fetch.new.files in
    read_on told told rose rose c.args.dump.now most_dump (codes "dump") (λ bytes. Draws c.args.options.now bytes) c.in_ok-bytes.bytes c.plan_drawn.result refl c.in_ok-bytes.ensures.read
    (subst (λ (b : List ℕ). OrMemory c.plan_drawn.result (Draws c.args.options.now b)) c.as_slice.ensures c.plan_drawn.ensures)

pub returns-in_err-bytes-clause-reads : goal.returns-in_err-bytes-clause-reads
returns-in_err-bytes-clause-reads g c = reads_first (looks g.F.Files.told g.F.Files.faults g.F.Files.may_fail g.F.Files.by_read) c.args.dump.now [] c.args.files.now c.fetch.new.files c.fetch.ensures.once c.fetch.ensures.same c.fetch.ensures.later c.fetch.ensures.fewer

pub returns-clause-reads : goal.returns-clause-reads
returns-clause-reads g c = reads_first (looks g.F.Files.told g.F.Files.faults g.F.Files.may_fail g.F.Files.by_read) c.args.dump.now [] c.args.files.now c.fetch.new.files c.fetch.ensures.once c.fetch.ensures.same c.fetch.ensures.later c.fetch.ensures.fewer

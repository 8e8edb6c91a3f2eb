use Rattle.std.proofs.lemmas.Result.{err_from_is_err_and}
use Rattle.deliveries.specs.Plan.{given}
use Rattle.qbs.proofs.Beginning.{unread_due, read_due}
use Rattle.qbs.proofs.rewrite.plan_rewrite.Goals as goal

pub returns-in_err-fetched-clause-due : goal.returns-in_err-fetched-clause-due
returns-in_err-fetched-clause-due g c =
    let p = err_from_is_err_and c.from_residual.result c.from_residual.ensures.1 in
    rw (p.1, p.2)
    (unread_due _ (given g.F.Files.told g.F.Files.faults g.F.Files.may_fail c.args.files.now c.fetch_files.new.files) c.args.schema.now c.args.source.now c.args.options.now.store _ c.in_err-fetched.field-0.0 c.in_err-fetched.ensures.read)

pub returns-clause-due : goal.returns-clause-due
returns-clause-due g c =
    let fetched = c.in_ok-fetched.fetched.value in
    read_due (given g.F.Files.told g.F.Files.faults g.F.Files.may_fail c.args.files.now c.fetch_files.new.files) c.args.schema.now c.args.source.now c.args.options.now.store _ fetched.schema fetched.source fetched.store c.plan_texts.result c.in_ok-fetched.ensures.read
    (rw c.deref.ensures at c.plan_texts.ensures)

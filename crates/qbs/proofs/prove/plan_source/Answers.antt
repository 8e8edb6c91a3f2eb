use Rattle.std.proofs.lemmas.Result.{err_from_is_err_and}
use Rattle.java_ast.specs.Reading.{program as plain_program}
use Rattle.qbs.proofs.Beginning.{unheld_due, held_due}
use Rattle.qbs.proofs.prove.plan_source.Goals as goal

pub plan_program-requires-clause-program : goal.plan_program-requires-clause-program
plan_program-requires-clause-program g c = rw (c.deref.ensures, c.as_slice.ensures, c.deref-2.ensures) c.in_ok-opened.ensures.is_program

pub returns-in_err-opened : goal.returns-in_err-opened
returns-in_err-opened g c =
    let p = err_from_is_err_and c.from_residual.result c.from_residual.ensures.1 in
    rw (p.1, p.2)
    (unheld_due _ c.args.files.now.schema c.args.files.now.source c.args.files.now.store _ c.in_err-opened.field-0.0 c.in_err-opened.ensures)

pub returns : goal.returns
returns g c =
    let opened = c.in_ok-opened.opened.value in
    held_due c.args.files.now.schema c.args.files.now.source c.args.files.now.store _ opened.schema (plain_program opened.typed.program) opened.bank c.plan_program.result c.in_ok-opened.ensures
    (rw (c.deref.ensures, c.deref-2.ensures, c.deref-3.ensures) at c.plan_program.ensures)

use Rattle.std.proofs.Common.{sym}
use Rattle.std.proofs.lemmas.Result.{err_from_is_err_and}
use Rattle.java_ast.specs.Reading.{program as plain_program}
use Rattle.java_types.specs.declared.checking.Typed.{Typed}
use Rattle.plans.specs.Opening.{IsProgramOf}
use Rattle.qbs.specs.Store.{IsBankOf}
use Rattle.qbs.proofs.Beginning.{source_unheld, store_unheld}
use Rattle.qbs.proofs.opened.open_files.Goals as goal

pub returns-in_err-typed : goal.returns-in_err-typed
returns-in_err-typed c =
    let p = err_from_is_err_and c.from_residual-in_err-typed.result c.from_residual-in_err-typed.ensures.1 in
    rw (p.1, p.2, sym c.as_slice.ensures, sym c.as_slice-2.ensures)
    (source_unheld _ c.as_slice.result.now c.as_slice-2.result.now c.args.files.now.store (λ (t : Typed). IsProgramOf c.in_ok-schema.schema c.as_slice-2.result.now (plain_program t.program)) c.in_ok-schema.schema c.in_err-typed.field-0.0 c.in_ok-schema.ensures c.in_err-typed.ensures)

pub returns-in_err-bank : goal.returns-in_err-bank
returns-in_err-bank c =
    let p = err_from_is_err_and c.from_residual-in_err-bank.result c.from_residual-in_err-bank.ensures.1 in
    rw (p.1, p.2, sym c.as_slice.ensures, sym c.as_slice-2.ensures)
    (store_unheld _ c.as_slice.result.now c.as_slice-2.result.now c.args.files.now.store (IsBankOf c.in_ok-schema.schema c.args.files.now.store) c.in_ok-schema.schema (plain_program c.in_ok-typed.typed.program) c.in_err-bank.field-0.0 c.in_ok-schema.ensures c.in_ok-typed.ensures c.in_err-bank.ensures)

pub returns : goal.returns
returns c =
    rw (c.in_ok-new.ensures.ok, sym c.as_slice.ensures, sym c.as_slice-2.ensures)
    (record { is_schema = c.in_ok-schema.ensures; is_program = c.in_ok-typed.ensures; is_bank = c.in_ok-bank.ensures })

use Rattle.std.proofs.lemmas.Result.{err_from_is_err_and}
use Rattle.store_readers.specs.Into.{pushed}
use Rattle.store_readers.proofs.Onto.{cells_none, cells_on, cells_fail}
use Rattle.store_readers.proofs.rows.+put_cells.Goals as goal

pub returns-in-None : goal.returns-in-None
returns-in-None t c = cells_none pushed c.args.cells.now.items c.args.columns.now c.args.bytes.now c.in-None.ensures.cases

pub returns-in_err-x-in-Some : goal.returns-in_err-x-in-Some
returns-in_err-x-in-Some t c =
    let p = err_from_is_err_and c.from_residual.result c.from_residual.ensures.1 in
    rw (p.1, p.2) (cells_fail pushed c.args.cells.now.items c.in-Some.further.now c.args.columns.now c.args.bytes.now c.in-Some.column.now c.in_err-x-in-Some.field-0.0 c.in-Some.ensures.cases.0 c.in_err-x-in-Some.ensures)

pub returns-in_ok-push-in-Some : goal.returns-in_ok-push-in-Some
returns-in_ok-push-in-Some t c =
    rw (cells_on pushed c.args.cells.now.items c.in-Some.further.now c.args.columns.now c.args.bytes.now c.in-Some.column.now c.in_ok-x-in-Some.x c.in_ok-x-in-Some.rest.now c.in-Some.ensures.cases.0 c.in_ok-x-in-Some.ensures) (rw c.in_ok-push-in-Some.ensures.items at c.put_cells.ensures)

use Rattle.std.proofs.Common.{arith}
use Rattle.std.proofs.lemmas.Result.{err_from_is_err_and}
use Rattle.store_readers.specs.Into.{row_put}
use Rattle.store_readers.specs.Reading.{row_at}
use Rattle.store_readers.proofs.Onto.{times_none, times_on, times_fail}
use Rattle.store_readers.proofs.rows.+put_so_many.Goals as goal

pub returns-then-count-eq0 : goal.returns-then-count-eq0
returns-then-count-eq0 t c = times_none (row_put c.args.table) c.args.db.now (row_at c.args.table c.args.columns.now) c.args.count c.args.bytes.now c.if-count-eq0.true

pub returns-in_err-row : goal.returns-in_err-row
returns-in_err-row t c =
    let p = err_from_is_err_and c.from_residual.result c.from_residual.ensures.1 in
    rw (p.1, p.2) (times_fail (row_put c.args.table) c.args.db.now (row_at c.args.table c.args.columns.now) c.args.count c.args.bytes.now (omega (arith, c.if-count-eq0.false)) c.in_err-row.field-0.0 c.in_err-row.ensures)

pub returns : goal.returns
returns t c =
    rw (times_on (row_put c.args.table) c.args.db.now (row_at c.args.table c.args.columns.now) c.args.count c.args.bytes.now (omega (arith, c.if-count-eq0.false)) c.in_ok-row.row c.in_ok-row.rest.now c.in_ok-row.ensures) (rw c.in_ok-put_row.ensures.ok at c.put_so_many.ensures)

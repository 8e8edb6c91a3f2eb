use Rattle.std.proofs.Common.{◌+◌, drop, sym, arith}
use Rattle.std.proofs.lemmas.Result.{err_from_is_err_and}
use Rattle.std.proofs.lemmas.List.{drop_all}
use Rattle.csv.specs.Records.{fields_of}
use Rattle.schema.specs.Rows.{cells_of}
use Rattle.schema_text.proofs.Celled.{drop_some, drop_none, drop_item, cell_goes_on, cell_fails, no_field, cells_end}
use Rattle.schema_text.proofs.loading.cells.Goals as goal

pub returns-in_default : goal.returns-in_default
returns-in_default c =
    no_field c.loop-i.cells (drop c.loop-i.i c.args.columns.now) (drop (c.loop-i.i + 1) c.args.columns.now) (drop c.loop-i.i (fields_of c.args.record.now)) (drop (c.loop-i.i + 1) (fields_of c.args.record.now)) c.index-columns-i.result (cells_of c.args.columns.now (fields_of c.args.record.now))
    (drop_item c.args.columns.now c.loop-i.i c.index-columns-i.result c.loop-i-test.true c.index-columns-i.is) c.loop-i.invariant
    (drop_none (fields_of c.args.record.now) c.loop-i.i (sym c.in_default.ensures.value))

pub returns-in_err-cell : goal.returns-in_err-cell
returns-in_err-cell c =
    let p = err_from_is_err_and c.from_residual.result c.from_residual.ensures.1 in
    rw (p.1, p.2)
    (cell_fails c.loop-i.cells (drop c.loop-i.i c.args.columns.now) (drop (c.loop-i.i + 1) c.args.columns.now) (drop c.loop-i.i (fields_of c.args.record.now)) (drop (c.loop-i.i + 1) (fields_of c.args.record.now)) c.index-columns-i.result (cells_of c.args.columns.now (fields_of c.args.record.now))
    (drop_item c.args.columns.now c.loop-i.i c.index-columns-i.result c.loop-i-test.true c.index-columns-i.is) c.loop-i.invariant c.in-Some.field.now c.in_err-cell.field-0.0
    (drop_some (fields_of c.args.record.now) c.loop-i.i c.in-Some.field.now (sym c.in-Some.ensures.value)) c.in_err-cell.ensures)

pub loop-i-preserved : goal.loop-i-preserved
loop-i-preserved c =
    rw c.in_ok-push.ensures.ok
    (cell_goes_on c.loop-i.cells (drop c.loop-i.i c.args.columns.now) (drop (c.loop-i.i + 1) c.args.columns.now) (drop c.loop-i.i (fields_of c.args.record.now)) (drop (c.loop-i.i + 1) (fields_of c.args.record.now)) c.index-columns-i.result (cells_of c.args.columns.now (fields_of c.args.record.now))
    (drop_item c.args.columns.now c.loop-i.i c.index-columns-i.result c.loop-i-test.true c.index-columns-i.is) c.loop-i.invariant c.in-Some.field.now c.in_ok-cell.field-0
    (drop_some (fields_of c.args.record.now) c.loop-i.i c.in-Some.field.now (sym c.in-Some.ensures.value)) c.in_ok-cell.ensures)

pub returns : goal.returns
returns c = cells_end c.loop-i.cells (drop c.loop-i.i c.args.columns.now) (drop c.loop-i.i (fields_of c.args.record.now)) (cells_of c.args.columns.now (fields_of c.args.record.now)) (drop_all c.loop-i.i c.args.columns.now (omega arith)) c.loop-i.invariant

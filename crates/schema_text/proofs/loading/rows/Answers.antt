use Rattle.std.proofs.Common.{◌+◌, ◌∷◌, [], length, arith}
use Rattle.std.proofs.lemmas.Result.{err_from_is_err_and}
use Rattle.std.proofs.lemmas.List.{length-append}
use Rattle.csv.specs.Records.{fields_of}
use Rattle.schema.specs.Csv.{records_in}
use Rattle.schema.specs.Rows.{rows_from}
use Rattle.schema_text.proofs.Rowed.{row_goes_on, row_fails, rows_end}
use Rattle.schema_text.proofs.loading.rows.Goals as goal

pub returns-in_err-numbered : goal.returns-in_err-numbered
returns-in_err-numbered c =
    let p = err_from_is_err_and c.from_residual-in_err-numbered.result c.from_residual-in_err-numbered.ensures.1 in
    let number = c.next_number-number.ensures in
    rw (p.1, p.2)
    (row_fails c.args.table c.args.columns.now c.loop-rows.rows (records_in c.loop-rows.reader) (records_in c.next_record.new.reader) (fields_of c.next_record.new.record) (rows_from c.args.table c.args.columns.now 1 (records_in c.args.reader.now))
    (c.in_ok-next_record.ensures.found c.if-branch.true) c.loop-rows.invariant.so_far c.next_number-number.result c.in_err-numbered.field-0.0 number c.in_err-numbered.ensures.value)

pub loop-rows-preserved : goal.loop-rows-preserved
loop-rows-preserved c =
    let number = c.next_number-number.ensures in
    let within = c.in_ok-numbered.ensures.within in
    let one = length-append c.loop-rows.rows (c.in_ok-numbered.field-0 ∷ []) in
    record {
      reading = c.in_ok-next_record.ensures.reading c.if-branch.true;
      few = rw c.in_ok-push.ensures.ok (omega (arith, one, within, number));
      so_far = rw c.in_ok-push.ensures.ok
          (row_goes_on c.args.table c.args.columns.now c.loop-rows.rows (records_in c.loop-rows.reader) (records_in c.next_record.new.reader) (fields_of c.next_record.new.record) (rows_from c.args.table c.args.columns.now 1 (records_in c.args.reader.now))
          (c.in_ok-next_record.ensures.found c.if-branch.true) c.loop-rows.invariant.so_far c.next_number-number.result c.in_ok-numbered.field-0 number c.in_ok-numbered.ensures.value);
    }

pub returns : goal.returns
returns c =
    rows_end c.args.table c.args.columns.now c.loop-rows.rows (length c.loop-rows.rows + 1) (records_in c.loop-rows.reader) (rows_from c.args.table c.args.columns.now 1 (records_in c.args.reader.now)) (c.in_ok-next_record.ensures.none c.if-branch.false) c.loop-rows.invariant.so_far

use Rattle.std.proofs.Common.{◌≡◌, ◌≤◌, ◌+◌, ◌-◌, length}
use Rattle.schema.specs.Csv.{IsReading, records_in}
use Rattle.schema.specs.Rows.{most_rows, rows_from}
use Rattle.schema_text.proofs.Front.{with_front}
use Rattle.schema_text.proofs.loading.rows.Given as goal

abbrev pub invariant-loop-rows : goal.invariant-loop-rows
invariant-loop-rows l = record {
  reading : IsReading l.reader;
  few : length l.rows ≤ most_rows;
  so_far : with_front l.rows (rows_from l.table l.columns (length l.rows + 1) (records_in l.reader)) ≡ rows_from l.table l.columns 1 (records_in l.fn.reader);
}

abbrev pub decreases-loop-rows : goal.decreases-loop-rows
decreases-loop-rows l = most_rows + 1 - length l.rows

use Rattle.std.proofs.Common.{◌≡◌, ◌≤◌, drop, length}
use Rattle.csv.specs.Records.{fields_of}
use Rattle.schema.specs.Rows.{is_header}
use Rattle.schema_text.proofs.loading.is_header.Given as goal

abbrev pub invariant-loop-i : goal.invariant-loop-i
invariant-loop-i l = record {
  within : l.i ≤ length (fields_of l.record);
  so_far : is_header (drop l.i l.columns) (drop l.i (fields_of l.record)) ≡ is_header l.columns (fields_of l.record);
}

use Rattle.std.proofs.Common.{◌≡◌, drop}
use Rattle.csv.specs.Records.{fields_of}
use Rattle.schema.specs.Rows.{cells_of}
use Rattle.schema_text.proofs.Front.{with_front}
use Rattle.schema_text.proofs.loading.cells.Given as goal

abbrev pub invariant-loop-i : goal.invariant-loop-i
invariant-loop-i l = with_front l.cells (cells_of (drop l.i l.columns) (drop l.i (fields_of l.record))) ≡ cells_of l.columns (fields_of l.record)

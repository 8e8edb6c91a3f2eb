use Rattle.std.proofs.Common.{◌≡◌, ◌<◌, length}
use Rattle.std.specs.Vec.Iter.{into_iter_items}
use Rattle.plans.specs.Tables.{with_rows_at}
use Rattle.plans.proofs.tables.put_rows.Given as goal

-- with the rows that are left the tables are those with all rows
abbrev pub invariant-loop-row : goal.invariant-loop-row
invariant-loop-row l = (with_rows_at l.db l.table (into_iter_items l.row-iterator) ≡ with_rows_at l.fn.db l.table l.fn.rows) × (l.table < length l.db)

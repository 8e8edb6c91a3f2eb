use Rattle.std.proofs.Common.{◌≡◌, ◌++◌, take, drop, map}
use Rattle.dump_tables.specs.Columns.{with_null}
use Rattle.dump_tables.proofs.columns.mark_nulls.Given as goal

abbrev pub invariant-loop-column : goal.invariant-loop-column
invariant-loop-column l = l.column-items ≡ map (with_null l.name l.not_null) (take l.column-index l.fn.columns.items) ++ drop l.column-index l.fn.columns.items

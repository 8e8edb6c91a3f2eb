use Rattle.std.proofs.Common.{◌≡◌, ◌++◌, take, drop, map}
use Rattle.dump_tables.specs.Columns.{with_key}
use Rattle.dump_tables.proofs.columns.mark_keyed.Given as goal

abbrev pub invariant-loop-column : goal.invariant-loop-column
invariant-loop-column l = l.column-items ≡ map (with_key (map (λ n. n.now) l.names)) (take l.column-index l.fn.columns.items) ++ drop l.column-index l.fn.columns.items

use Rattle.std.proofs.Common.{◌≡◌, drop}
use Rattle.std.specs.List.{list_all}
use Rattle.store_parts.specs.Limits as spec
use Rattle.store_parts.proofs.limits.are_rows_written.Given as goal

abbrev pub invariant-loop-row : goal.invariant-loop-row
invariant-loop-row l = list_all (λ r. list_all spec.is_written r.cells) l.rows ≡ list_all (λ r. list_all spec.is_written r.cells) (drop l.row-index l.rows)

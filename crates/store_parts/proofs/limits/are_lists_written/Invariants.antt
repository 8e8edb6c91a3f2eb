use Rattle.std.proofs.Common.{◌≡◌, drop}
use Rattle.std.specs.List.{list_all}
use Rattle.store_parts.specs.Limits as spec
use Rattle.store_parts.proofs.limits.are_lists_written.Given as goal

abbrev pub invariant-loop-values : goal.invariant-loop-values
invariant-loop-values l = list_all spec.are_written l.lists ≡ list_all spec.are_written (drop l.values-index l.lists)

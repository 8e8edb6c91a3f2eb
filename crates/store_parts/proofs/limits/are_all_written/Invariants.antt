use Rattle.std.proofs.Common.{◌≡◌, drop}
use Rattle.std.specs.List.{list_all}
use Rattle.store_parts.specs.Limits as spec
use Rattle.store_parts.proofs.limits.are_all_written.Given as goal

abbrev pub invariant-loop-x : goal.invariant-loop-x
invariant-loop-x l = list_all spec.is_written l.values ≡ list_all spec.is_written (drop l.x-index l.values)

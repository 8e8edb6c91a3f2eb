use Rattle.std.proofs.Common.{◌≡◌, ◌++◌, drop}
use Rattle.view_map.specs.Fetches.{spelled}
use Rattle.view_map.proofs.fetches.put_spelled.Given as goal

abbrev pub invariant-loop-item : goal.invariant-loop-item
invariant-loop-item l = l.bytes.items ++ spelled (drop l.item-index l.items) ≡ l.fn.bytes.items ++ spelled l.items

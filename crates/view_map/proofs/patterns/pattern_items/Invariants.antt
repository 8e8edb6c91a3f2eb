use Rattle.std.proofs.Common.{◌≡◌, ◌++◌, drop}
use Rattle.view_map.specs.Patterns.{pattern_items}
use Rattle.view_map.proofs.patterns.pattern_items.Given as goal

abbrev pub invariant-loop-item : goal.invariant-loop-item
invariant-loop-item l = l.list ++ pattern_items (drop l.item-index l.items) ≡ pattern_items l.items

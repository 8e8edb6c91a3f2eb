use Rattle.std.proofs.Common.{◌≡◌, ◌++◌, drop}
use Rattle.view_map.specs.Templates.{parts_of}
use Rattle.view_map.proofs.templates.parts_of.Given as goal

abbrev pub invariant-loop-item : goal.invariant-loop-item
invariant-loop-item l = l.list ++ parts_of (drop l.item-index l.items) ≡ parts_of l.items

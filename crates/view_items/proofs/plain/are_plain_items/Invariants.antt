use Rattle.std.proofs.Common.{◌≡◌, drop}
use Rattle.std.specs.List.{list_all}
use Rattle.view_items.specs.Plain.{is_plain_item}
use Rattle.view_items.proofs.plain.are_plain_items.Given as goal

abbrev pub invariant-loop-item : goal.invariant-loop-item
invariant-loop-item l = list_all is_plain_item l.items ≡ list_all is_plain_item (drop l.item-index l.items)

use Rattle.std.proofs.Common.{◌≡◌, ◌≤◌, ◌++◌, drop, length}
use Rattle.std.specs.List.{AllByRecursion, flat_map}
use Rattle.std.specs.String.{string_bytes}
use Rattle.proof_store.specs.Texts.{item_text}
use Rattle.proof_store.proofs.print.push_items.Given as goal

-- what is written and the text of what is left is the text of all
abbrev pub invariant-loop-item : goal.invariant-loop-item
invariant-loop-item l = (string_bytes l.out ++ flat_map item_text (drop l.item-index l.items) ≡ string_bytes l.fn.out ++ flat_map item_text l.items) × AllByRecursion (λ s. length s.db ≤ l.count) (drop l.item-index l.items)

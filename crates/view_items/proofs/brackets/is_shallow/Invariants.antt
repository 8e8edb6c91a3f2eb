use Rattle.std.proofs.Common.{◌≡◌, ◌≤◌, drop}
use Rattle.view_items.specs.Brackets.{is_shallow_at, is_shallow}
use Rattle.view_items.proofs.brackets.is_shallow.Given as goal

abbrev pub invariant-loop-item : goal.invariant-loop-item
invariant-loop-item l = record {
  so_far : is_shallow_at l.depth (drop l.item-index l.item-items) ≡ is_shallow l.items l.from l.to;
  within : l.depth ≤ 65;
}

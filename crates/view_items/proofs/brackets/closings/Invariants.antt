use Rattle.std.proofs.Common.{◌≡◌, ◌≤◌, drop, length, reverse, Some}
use Rattle.view_items.specs.Brackets.{closed_from}
use Rattle.view_items.proofs.brackets.closings.Given as goal

abbrev pub invariant-loop-number : goal.invariant-loop-number
invariant-loop-number l = record {
  so_far : closed_from l.number (drop l.number l.items) ≡ Some (reverse l.closer.waiting.items, reverse l.closer.numbers.items);
  within : l.number ≤ length l.items;
}

abbrev pub decreases-loop-number : goal.decreases-loop-number
decreases-loop-number l = l.number

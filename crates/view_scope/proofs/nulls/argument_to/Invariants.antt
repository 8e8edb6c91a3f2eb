use Rattle.std.proofs.Common.{◌≡◌, ◌+◌, ◌≤◌, length}
use Rattle.view_scope.specs.Nulls.{argument_to}
use Rattle.view_scope.proofs.nulls.argument_to.Given as goal

abbrev pub invariant-loop-left : goal.invariant-loop-left
invariant-loop-left l = record {
  so_far : argument_to l.left l.items l.rounds l.opening l.number ≡ argument_to (length l.items) l.items l.rounds l.opening l.fn.first;
  room : l.number + l.left ≤ l.fn.first + length l.items;
}

abbrev pub decreases-loop-left : goal.decreases-loop-left
decreases-loop-left l = l.left

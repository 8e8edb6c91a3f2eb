use Rattle.std.proofs.Common.{◌≡◌, ◌+◌, ◌≤◌, length}
use Rattle.view_scope.specs.JavaTypes.{arguments_end}
use Rattle.view_scope.proofs.types.arguments_end.Given as goal

abbrev pub invariant-loop-left : goal.invariant-loop-left
invariant-loop-left l = record {
  so_far : arguments_end l.left l.depth l.items l.number ≡ arguments_end (length l.items) 0 l.items l.fn.first;
  room : l.number ≤ length l.items;
  deep : l.depth + l.left ≤ length l.items;
}

abbrev pub decreases-loop-left : goal.decreases-loop-left
decreases-loop-left l = l.left

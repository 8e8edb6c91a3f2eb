use Rattle.std.proofs.Common.{◌≡◌, ◌+◌, ◌≤◌, length}
use Rattle.view_scope.specs.JavaTypes.{type_rest}
use Rattle.view_scope.proofs.types.type_rest.Given as goal

abbrev pub invariant-loop-left : goal.invariant-loop-left
invariant-loop-left l = record {
  so_far : type_rest l.left l.items l.number ≡ type_rest (length l.items) l.items l.fn.first;
  room : l.number ≤ length l.items + 1;
}

abbrev pub decreases-loop-left : goal.decreases-loop-left
decreases-loop-left l = l.left

use Rattle.std.proofs.Common.{◌≡◌, ◌≤◌, length}
use Rattle.view_scope.specs.Nulls.{bare}
use Rattle.view_scope.proofs.nulls.bare.Given as goal

abbrev pub invariant-loop-left : goal.invariant-loop-left
invariant-loop-left l = record {
  so_far : bare l.left l.items l.closings l.from l.to ≡ bare (length l.items) l.items l.closings l.fn.first l.fn.end;
  within : l.from ≤ length l.items;
}

abbrev pub decreases-loop-left : goal.decreases-loop-left
decreases-loop-left l = l.left

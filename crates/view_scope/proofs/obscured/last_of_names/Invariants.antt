use Rattle.std.proofs.Common.{◌≡◌, ◌<◌, ◌^◌, length}
use Rattle.view_scope.specs.Obscured.{last_of_names}
use Rattle.view_scope.proofs.obscured.last_of_names.Given as goal

abbrev pub invariant-loop-left : goal.invariant-loop-left
invariant-loop-left l = record {
  so_far : last_of_names l.left l.items l.number ≡ last_of_names (length l.items) l.items l.fn.first;
  room : l.number < 2 ^ 62;
}

abbrev pub decreases-loop-left : goal.decreases-loop-left
decreases-loop-left l = l.left

use Rattle.std.proofs.Common.{◌≡◌, ◌+◌, ◌≤◌, length, slice_get}
use Rattle.view_scope.specs.Patterns.{front_in}
use Rattle.view_scope.proofs.patterns.front_end.Given as goal

abbrev pub invariant-loop-left : goal.invariant-loop-left
invariant-loop-left l = record {
  so_far : front_in l.left l.depth (slice_get l.items) l.number ≡ front_in (length l.items) 0 (slice_get l.items) 0;
  come : l.number + l.left ≡ length l.items;
  deep : l.depth ≤ l.number;
}

abbrev pub decreases-loop-left : goal.decreases-loop-left
decreases-loop-left l = l.left

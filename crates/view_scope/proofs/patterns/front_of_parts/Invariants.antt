use Rattle.std.proofs.Common.{◌≡◌, ◌+◌, ◌≤◌, length}
use Rattle.view_scope.specs.Patterns.{front_in, item_of}
use Rattle.view_scope.proofs.patterns.front_of_parts.Given as goal

abbrev pub invariant-loop-left : goal.invariant-loop-left
invariant-loop-left l = record {
  so_far : front_in l.left l.depth (item_of l.parts) l.number ≡ front_in (length l.parts) 0 (item_of l.parts) 0;
  come : l.number + l.left ≡ length l.parts;
  deep : l.depth ≤ l.number;
}

abbrev pub decreases-loop-left : goal.decreases-loop-left
decreases-loop-left l = l.left

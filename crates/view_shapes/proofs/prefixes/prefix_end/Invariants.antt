use Rattle.std.proofs.Common.{◌≡◌, ◌≤◌, ◌⊎◌, length, map}
use Rattle.view_shapes.specs.Prefixes.{prefix_end}
use Rattle.view_shapes.proofs.prefixes.prefix_end.Given as goal

abbrev pub invariant-loop-left : goal.invariant-loop-left
invariant-loop-left l = record {
  so_far : prefix_end (map (λ m. m.now) l.modifiers) l.left l.items l.closings l.number ≡ prefix_end (map (λ m. m.now) l.modifiers) (length l.items) l.items l.closings l.fn.first;
  within : (l.number ≤ length l.items) ⊎ (l.number ≡ l.fn.first);
}

abbrev pub decreases-loop-left : goal.decreases-loop-left
decreases-loop-left l = l.left

use Rattle.std.proofs.Common.{◌≡◌, ◌+◌, ◌≤◌, length}
use Rattle.view_map.specs.Templates.{are_closed}
use Rattle.view_map.proofs.templates.are_closed.Given as goal

abbrev pub invariant-loop-rest : goal.invariant-loop-rest
invariant-loop-rest l = record {
  so_far : are_closed l.depth l.rest ≡ are_closed 0 l.fn.items;
  depth : l.depth + length l.rest ≤ length l.fn.items;
}

abbrev pub decreases-loop-rest : goal.decreases-loop-rest
decreases-loop-rest l = length l.rest

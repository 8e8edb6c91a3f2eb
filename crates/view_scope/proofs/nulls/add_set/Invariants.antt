use Rattle.std.proofs.Common.{◌≡◌, ◌≤◌, ◌-◌, ◌++◌}
use Rattle.view_scope.specs.Nulls.{set_among, gives_null}
use Rattle.view_scope.proofs.Sets.{behind, IsLeast}
use Rattle.view_scope.proofs.nulls.add_set.Given as goal

abbrev pub invariant-loop-left : goal.invariant-loop-left
invariant-loop-left l = record {
  so_far : l.list ≡ l.fn.list ++ set_among l.items l.rounds (behind l.from l.to l.left);
  null : l.null_behind ≡ gives_null l.items (behind l.from l.to l.left);
  least : IsLeast l.items l.from l.to l.left l.least;
  room : l.left ≤ l.to - l.from;
}

abbrev pub decreases-loop-left : goal.decreases-loop-left
decreases-loop-left l = l.left

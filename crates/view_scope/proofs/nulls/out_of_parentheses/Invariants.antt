use Rattle.std.proofs.Common.{◌≡◌, ◌≤◌, length}
use Rattle.view_scope.specs.Nulls.{out_of_parentheses}
use Rattle.view_scope.proofs.nulls.out_of_parentheses.Given as goal

abbrev pub invariant-loop-left : goal.invariant-loop-left
invariant-loop-left l = record {
  so_far : out_of_parentheses l.left l.items l.from l.to ≡ out_of_parentheses (length l.items) l.items l.fn.first l.fn.end;
  within : l.to ≤ length l.items;
}

abbrev pub decreases-loop-left : goal.decreases-loop-left
decreases-loop-left l = l.left

use Rattle.std.proofs.Common.{◌≡◌, ◌≤◌}
use Rattle.view_scope.specs.Nulls.{operand_from}
use Rattle.view_scope.proofs.nulls.operand_from.Given as goal

abbrev pub invariant-loop-number : goal.invariant-loop-number
invariant-loop-number l = record {
  so_far : operand_from l.number l.items l.rounds l.operator ≡ operand_from l.operator l.items l.rounds l.operator;
  within : l.number ≤ l.operator;
}

abbrev pub decreases-loop-number : goal.decreases-loop-number
decreases-loop-number l = l.number

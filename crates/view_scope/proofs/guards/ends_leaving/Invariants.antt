use Rattle.std.proofs.Common.{◌≡◌, ◌-◌, false, length}
use Rattle.view_shapes.specs.Blocks.{statements_in}
use Rattle.view_scope.specs.Guards.{last_leaves}
use Rattle.view_scope.proofs.guards.ends_leaving.Given as goal

abbrev pub invariant-loop : goal.invariant-loop
invariant-loop l = last_leaves l.items l.leaving (statements_in (l.end - l.counter) l.items l.closings l.number) ≡ last_leaves l.items false (statements_in (length l.items) l.items l.closings l.first)

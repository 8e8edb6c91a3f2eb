use Rattle.std.proofs.Common.{◌≡◌, ◌-◌, ◌++◌, map}
use Rattle.view_shapes.specs.Blocks.{statements_in}
use Rattle.view_scope.specs.Standing.{stands_in, standing_in}
use Rattle.view_scope.proofs.standing.add_standing.Given as goal

abbrev pub invariant-loop : goal.invariant-loop
invariant-loop l = l.list ++ map (stands_in l.block) (statements_in (l.end - l.counter) l.items l.closings l.number) ≡ l.fn.list ++ standing_in l.items l.closings l.block

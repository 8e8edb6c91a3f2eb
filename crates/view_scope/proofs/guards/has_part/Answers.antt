use Rattle.std.proofs.Common.{sym}
use Rattle.view_shapes.proofs.Numbers.{any_here}
use Rattle.view_scope.specs.Guards.{is_part_of}
use Rattle.view_scope.proofs.guards.has_part.Goals as goal

pub returns-then-is_part_of : goal.returns-then-is_part_of
returns-then-is_part_of c = any_here (is_part_of c.args.items.now c.args.rounds.now c.args.all c.args.opening c.args.close c.args.name.now) _ _ _ c.loop-number.invariant c.loop-number-test.true (sym c.if-is_part_of.ensures)

use Rattle.std.proofs.Common.{sym}
use Rattle.view_shapes.proofs.Numbers.{all_but}
use Rattle.view_scope.specs.Allowed.{is_part_free}
use Rattle.view_scope.proofs.allowed.are_parts_free.Goals as goal

pub returns-then-not-is_part_free : goal.returns-then-not-is_part_free
returns-then-not-is_part_free c = all_but (is_part_free c.args.map.now c.args.items.now c.args.closings.now c.args.rounds.now c.args.method.now c.args.parts.now) _ _ _ c.loop-number.invariant c.loop-number-test.true (sym c.if-not-is_part_free.ensures)

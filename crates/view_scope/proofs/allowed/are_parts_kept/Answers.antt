use Rattle.std.proofs.Common.{sym}
use Rattle.view_shapes.proofs.Numbers.{all_but}
use Rattle.view_scope.specs.Allowed.{is_part_kept}
use Rattle.view_scope.proofs.allowed.are_parts_kept.Goals as goal

pub returns-then-not-is_part_kept : goal.returns-then-not-is_part_kept
returns-then-not-is_part_kept c = all_but (is_part_kept c.args.map.now c.args.items.now c.args.closings.now c.args.rounds.now c.args.class c.args.members.now c.args.parts.now) _ _ _ c.loop-number.invariant c.loop-number-test.true (sym c.if-not-is_part_kept.ensures)

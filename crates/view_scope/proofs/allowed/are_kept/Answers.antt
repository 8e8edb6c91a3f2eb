use Rattle.std.proofs.Common.{sym}
use Rattle.view_shapes.proofs.Numbers.{all_but}
use Rattle.view_scope.specs.Allowed.{is_kept_at}
use Rattle.view_scope.proofs.allowed.are_kept.Goals as goal

pub returns-then-not-is_kept_at : goal.returns-then-not-is_kept_at
returns-then-not-is_kept_at c = all_but (is_kept_at c.args.map.now c.args.items.now c.args.closings.now c.args.class c.args.members.now c.args.pattern.now) _ _ _ c.loop-number.invariant c.loop-number-test.true (sym c.if-not-is_kept_at.ensures)

use Rattle.std.proofs.Common.{sym}
use Rattle.view_shapes.proofs.Numbers.{all_but}
use Rattle.view_scope.specs.Allowed.{is_item_free}
use Rattle.view_scope.proofs.allowed.are_items_free.Goals as goal

pub returns-then-not-is_item_free : goal.returns-then-not-is_item_free
returns-then-not-is_item_free c = all_but (is_item_free c.args.map.now c.args.items.now c.args.closings.now c.args.rounds.now c.args.method.now c.args.pattern.now) _ _ _ c.loop-number.invariant c.loop-number-test.true (sym c.if-not-is_item_free.ensures)

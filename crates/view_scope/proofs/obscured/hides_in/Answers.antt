use Rattle.std.proofs.Common.{sym}
use Rattle.view_shapes.proofs.Numbers.{any_here, any_end}
use Rattle.view_scope.specs.Obscured.{hides}
use Rattle.view_scope.proofs.obscured.hides_in.Goals as goal

pub returns-then-hides : goal.returns-then-hides
returns-then-hides c = any_here (hides c.args.map.now c.args.items.now c.args.class.now) _ _ _ c.loop-number.invariant c.loop-number-test.true (sym c.if-hides.ensures)

pub returns : goal.returns
returns c = any_end (hides c.args.map.now c.args.items.now c.args.class.now) _ _ _ c.loop-number.invariant c.loop-number-test.false

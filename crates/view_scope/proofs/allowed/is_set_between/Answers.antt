use Rattle.view_shapes.proofs.Numbers.{any_end}
use Rattle.view_scope.specs.Allowed.{sets_field}
use Rattle.view_scope.proofs.allowed.is_set_between.Goals as goal

pub returns : goal.returns
returns c = any_end (sets_field c.args.items.now c.args.field.now) _ _ _ c.loop-number.invariant c.loop-number-test.false

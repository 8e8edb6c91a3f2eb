use Rattle.std.proofs.Common.{sym}
use Rattle.view_shapes.proofs.Numbers.{any_here, any_end}
use Rattle.view_scope.specs.Allowed.{declares_field_at}
use Rattle.view_scope.proofs.allowed.declares_field_in.Goals as goal

pub returns-then-declares_field_at : goal.returns-then-declares_field_at
returns-then-declares_field_at c = any_here (declares_field_at c.args.items.now c.args.rounds.now c.args.class c.args.name.now) _ _ _ c.loop-number.invariant c.loop-number-test.true (sym c.if-declares_field_at.ensures)

pub returns : goal.returns
returns c = any_end (declares_field_at c.args.items.now c.args.rounds.now c.args.class c.args.name.now) _ _ _ c.loop-number.invariant c.loop-number-test.false

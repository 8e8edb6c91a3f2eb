use Rattle.std.proofs.Common.{sym}
use Rattle.view_shapes.proofs.Numbers.{any_here, any_end}
use Rattle.view_scope.specs.Allowed.{declares_method_at}
use Rattle.view_scope.proofs.allowed.declares_method_in.Goals as goal

pub returns-then-declares_method_at : goal.returns-then-declares_method_at
returns-then-declares_method_at c = any_here (declares_method_at c.args.items.now c.args.rounds.now c.args.class c.args.name.now) _ _ _ c.loop-number.invariant c.loop-number-test.true (sym c.if-declares_method_at.ensures)

pub returns : goal.returns
returns c = any_end (declares_method_at c.args.items.now c.args.rounds.now c.args.class c.args.name.now) _ _ _ c.loop-number.invariant c.loop-number-test.false

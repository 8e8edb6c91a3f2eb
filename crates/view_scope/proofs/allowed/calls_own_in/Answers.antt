use Rattle.std.proofs.Common.{sym}
use Rattle.view_shapes.proofs.Numbers.{any_here}
use Rattle.view_scope.specs.Allowed.{calls_own}
use Rattle.view_scope.proofs.allowed.calls_own_in.Goals as goal

pub returns-then-calls_own : goal.returns-then-calls_own
returns-then-calls_own c = any_here (calls_own c.args.items.now c.args.rounds.now c.args.class c.args.pattern.now) _ _ _ c.loop-number.invariant c.loop-number-test.true (sym c.if-calls_own.ensures)

use Rattle.std.proofs.Common.{sym}
use Rattle.view_shapes.proofs.Numbers.{any_here}
use Rattle.view_scope.specs.Guards.{guards_round}
use Rattle.view_scope.proofs.guards.is_in_guard.Goals as goal

pub returns-then-guards_round : goal.returns-then-guards_round
returns-then-guards_round c = any_here (guards_round c.args.items.now c.args.closings.now c.args.rounds.now c.args.place c.args.name.now c.args.since) _ _ _ c.loop-number.invariant c.loop-number-test.true (sym c.if-guards_round.ensures)

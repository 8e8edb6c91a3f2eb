use Rattle.std.proofs.Common.{sym}
use Rattle.view_rules.specs.Setting.{within_of}
use Rattle.view_shapes.proofs.Numbers.{all_but}
use Rattle.view_scope.specs.Outside.{is_head_known}
use Rattle.view_scope.proofs.outside.are_heads_known.Goals as goal

pub returns-then-not-is_head_known : goal.returns-then-not-is_head_known
returns-then-not-is_head_known c = all_but (is_head_known (within_of c.args.w.now) c.args.closings.now c.args.variables.now c.args.place) _ _ _ c.loop-number.invariant c.loop-number-test.true (sym c.if-not-is_head_known.ensures)

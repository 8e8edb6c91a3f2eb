use Rattle.std.proofs.Common.{sym}
use Rattle.view_rules.specs.Setting.{within_of}
use Rattle.view_shapes.proofs.Numbers.{any_here}
use Rattle.view_scope.specs.Outside.{is_headed_by}
use Rattle.view_scope.proofs.outside.is_in_head.Goals as goal

pub returns-then-is_headed_by : goal.returns-then-is_headed_by
returns-then-is_headed_by c = any_here (is_headed_by (within_of c.args.w.now) c.args.closings.now c.args.place c.args.java c.args.at) _ _ _ c.loop-number.invariant c.loop-number-test.true (sym c.if-is_headed_by.ensures)

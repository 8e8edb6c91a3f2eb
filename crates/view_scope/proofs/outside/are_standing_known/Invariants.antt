use Rattle.std.proofs.Common.{◌≡◌, drop}
use Rattle.view_rules.specs.Setting.{within_of}
use Rattle.view_scope.specs.Outside.{are_standing_known}
use Rattle.view_scope.proofs.outside.are_standing_known.Given as goal

abbrev pub invariant-loop-s : goal.invariant-loop-s
invariant-loop-s l =
    are_standing_known (within_of l.w) l.closings l.variables l.place (drop l.s-index l.standing)
    ≡ are_standing_known (within_of l.w) l.closings l.variables l.place l.standing

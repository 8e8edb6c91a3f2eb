use Rattle.std.proofs.Common.{◌≡◌, drop}
use Rattle.std.specs.List.{list_any}
use Rattle.view_rules.specs.Setting.{within_of}
use Rattle.view_scope.specs.Outside.{is_declared_by}
use Rattle.view_scope.proofs.outside.is_declared_before.Given as goal

abbrev pub invariant-loop-s : goal.invariant-loop-s
invariant-loop-s l = list_any (is_declared_by (within_of l.w) l.closings l.place l.java l.at) (drop l.s-index l.standing) ≡ list_any (is_declared_by (within_of l.w) l.closings l.place l.java l.at) l.standing

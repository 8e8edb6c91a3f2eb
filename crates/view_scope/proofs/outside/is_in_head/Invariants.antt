use Rattle.std.proofs.Common.{◌≡◌, ◌-◌}
use Rattle.std.specs.List.{list_any}
use Rattle.view_shapes.specs.Mentions.{numbers}
use Rattle.view_rules.specs.Setting.{within_of}
use Rattle.view_scope.specs.Outside.{is_headed_by}
use Rattle.view_scope.proofs.outside.is_in_head.Given as goal

abbrev pub invariant-loop-number : goal.invariant-loop-number
invariant-loop-number l = list_any (is_headed_by (within_of l.w) l.closings l.place l.java l.at) (numbers l.number (l.place - l.number))
    ≡ list_any (is_headed_by (within_of l.w) l.closings l.place l.java l.at) (numbers l.from (l.place - l.from))

use Rattle.std.proofs.Common.{◌≡◌, ◌-◌}
use Rattle.std.specs.List.{list_all}
use Rattle.view_shapes.specs.Mentions.{numbers}
use Rattle.view_rules.specs.Setting.{within_of}
use Rattle.view_scope.specs.Outside.{is_head_known}
use Rattle.view_scope.proofs.outside.are_heads_known.Given as goal

abbrev pub invariant-loop-number : goal.invariant-loop-number
invariant-loop-number l = list_all (is_head_known (within_of l.w) l.closings l.variables l.place) (numbers l.number (l.place - l.number))
    ≡ list_all (is_head_known (within_of l.w) l.closings l.variables l.place) (numbers l.from (l.place - l.from))

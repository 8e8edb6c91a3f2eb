use Rattle.std.proofs.Common.{◌≡◌, ◌-◌}
use Rattle.std.specs.List.{list_any}
use Rattle.view_shapes.specs.Mentions.{numbers}
use Rattle.view_scope.specs.Outside.{is_tried_by}
use Rattle.view_scope.proofs.outside.is_tried_from.Given as goal

abbrev pub invariant-loop-number : goal.invariant-loop-number
invariant-loop-number l = list_any (is_tried_by l.items l.closings l.place) (numbers l.number (l.place - l.number))
    ≡ list_any (is_tried_by l.items l.closings l.place) (numbers l.from (l.place - l.from))

use Rattle.std.proofs.Common.{◌≡◌, ◌-◌}
use Rattle.std.specs.List.{list_all}
use Rattle.view_shapes.specs.Mentions.{numbers}
use Rattle.view_scope.specs.Allowed.{is_part_kept}
use Rattle.view_scope.proofs.allowed.are_parts_kept.Given as goal

abbrev pub invariant-loop-number : goal.invariant-loop-number
invariant-loop-number l = list_all (is_part_kept l.map l.items l.closings l.rounds l.class l.members l.parts) (numbers l.number (l.to - l.number))
    ≡ list_all (is_part_kept l.map l.items l.closings l.rounds l.class l.members l.parts) (numbers l.from (l.to - l.from))

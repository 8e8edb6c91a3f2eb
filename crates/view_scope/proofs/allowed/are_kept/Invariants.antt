use Rattle.std.proofs.Common.{◌≡◌, ◌-◌}
use Rattle.std.specs.List.{list_all}
use Rattle.view_shapes.specs.Mentions.{numbers}
use Rattle.view_scope.specs.Allowed.{is_kept_at}
use Rattle.view_scope.proofs.allowed.are_kept.Given as goal

abbrev pub invariant-loop-number : goal.invariant-loop-number
invariant-loop-number l = list_all (is_kept_at l.map l.items l.closings l.class l.members l.pattern) (numbers l.number (l.to - l.number))
    ≡ list_all (is_kept_at l.map l.items l.closings l.class l.members l.pattern) (numbers l.from (l.to - l.from))

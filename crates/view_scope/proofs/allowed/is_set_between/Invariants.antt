use Rattle.std.proofs.Common.{◌≡◌, ◌-◌}
use Rattle.std.specs.List.{list_any}
use Rattle.view_shapes.specs.Mentions.{numbers}
use Rattle.view_scope.specs.Allowed.{sets_field}
use Rattle.view_scope.proofs.allowed.is_set_between.Given as goal

abbrev pub invariant-loop-number : goal.invariant-loop-number
invariant-loop-number l = list_any (sets_field l.items l.field) (numbers l.number (l.to - l.number))
    ≡ list_any (sets_field l.items l.field) (numbers l.from (l.to - l.from))

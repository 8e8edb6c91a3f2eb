use Rattle.std.proofs.Common.{◌≡◌, ◌-◌}
use Rattle.std.specs.List.{list_all}
use Rattle.view_shapes.specs.Mentions.{numbers}
use Rattle.view_scope.specs.Allowed.{is_beside_dot}
use Rattle.view_scope.proofs.allowed.are_beside_dots.Given as goal

abbrev pub invariant-loop-number : goal.invariant-loop-number
invariant-loop-number l = list_all (is_beside_dot l.items l.name) (numbers l.number (l.to - l.number))
    ≡ list_all (is_beside_dot l.items l.name) (numbers l.from (l.to - l.from))

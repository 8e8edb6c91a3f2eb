use Rattle.std.proofs.Common.{◌≡◌, ◌-◌}
use Rattle.std.specs.List.{list_any}
use Rattle.view_shapes.specs.Mentions.{numbers}
use Rattle.view_scope.specs.Nulls.{is_compared}
use Rattle.view_scope.proofs.nulls.is_compared_in.Given as goal

abbrev pub invariant-loop-number : goal.invariant-loop-number
invariant-loop-number l = list_any (is_compared l.items l.name) (numbers l.number (l.to - l.number))
    ≡ list_any (is_compared l.items l.name) (numbers l.from (l.to - l.from))

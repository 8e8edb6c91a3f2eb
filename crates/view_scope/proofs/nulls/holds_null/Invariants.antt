use Rattle.std.proofs.Common.{◌≡◌, ◌-◌}
use Rattle.std.specs.List.{list_any}
use Rattle.view_shapes.specs.Mentions.{numbers}
use Rattle.view_scope.specs.Nulls.{is_null_in}
use Rattle.view_scope.proofs.nulls.holds_null.Given as goal

abbrev pub invariant-loop-number : goal.invariant-loop-number
invariant-loop-number l = list_any (is_null_in l.items l.rounds l.opening) (numbers l.number (l.to - l.number))
    ≡ list_any (is_null_in l.items l.rounds l.opening) (numbers l.from (l.to - l.from))

use Rattle.std.proofs.Common.{◌≡◌, ◌-◌, ◌++◌}
use Rattle.std.specs.List.{flat_map}
use Rattle.view_shapes.specs.Mentions.{numbers}
use Rattle.view_scope.specs.Nulls.{tested_at}
use Rattle.view_scope.proofs.nulls.add_all_tested.Given as goal

abbrev pub invariant-loop-number : goal.invariant-loop-number
invariant-loop-number l = l.list ++ flat_map (tested_at l.items l.closings l.rounds) (numbers l.number (l.to - l.number))
    ≡ l.fn.list ++ flat_map (tested_at l.items l.closings l.rounds) (numbers l.from (l.to - l.from))

use Rattle.std.proofs.Common.{◌≡◌, ◌-◌}
use Rattle.std.specs.List.{list_any}
use Rattle.view_shapes.specs.Mentions.{numbers}
use Rattle.view_scope.specs.Guards.{is_loose_sign}
use Rattle.view_scope.proofs.guards.has_loose.Given as goal

abbrev pub invariant-loop-number : goal.invariant-loop-number
invariant-loop-number l = list_any (is_loose_sign l.items l.rounds l.all l.opening) (numbers l.number (l.close - l.number))
    ≡ list_any (is_loose_sign l.items l.rounds l.all l.opening) (numbers l.opening (l.close - l.opening))

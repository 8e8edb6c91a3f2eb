use Rattle.std.proofs.Common.{◌≡◌, ◌-◌}
use Rattle.std.specs.List.{list_any}
use Rattle.view_shapes.specs.Mentions.{numbers}
use Rattle.view_scope.specs.Guards.{is_part, part_operator, part_sign}
use Rattle.view_scope.proofs.guards.has_part.Given as goal

abbrev pub invariant-loop-number : goal.invariant-loop-number
invariant-loop-number l = list_any (is_part l.items l.rounds l.opening l.close (part_operator l.all) (part_sign l.all) l.name) (numbers l.number (l.close - l.number))
    ≡ list_any (is_part l.items l.rounds l.opening l.close (part_operator l.all) (part_sign l.all) l.name) (numbers l.from (l.close - l.from))

use Rattle.std.proofs.Common.{◌≡◌, ◌-◌}
use Rattle.std.specs.List.{list_any}
use Rattle.view_shapes.specs.Mentions.{numbers}
use Rattle.view_scope.specs.Allowed.{declares_field_at}
use Rattle.view_scope.proofs.allowed.declares_field_in.Given as goal

abbrev pub invariant-loop-number : goal.invariant-loop-number
invariant-loop-number l = list_any (declares_field_at l.items l.rounds l.class l.name) (numbers l.number (l.to - l.number))
    ≡ list_any (declares_field_at l.items l.rounds l.class l.name) (numbers l.from (l.to - l.from))

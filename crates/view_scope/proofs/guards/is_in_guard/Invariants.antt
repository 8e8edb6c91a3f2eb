use Rattle.std.proofs.Common.{◌≡◌, ◌-◌}
use Rattle.std.specs.List.{list_any}
use Rattle.view_shapes.specs.Mentions.{numbers}
use Rattle.view_scope.specs.Guards.{guards_round}
use Rattle.view_scope.proofs.guards.is_in_guard.Given as goal

abbrev pub invariant-loop-number : goal.invariant-loop-number
invariant-loop-number l = list_any (guards_round l.items l.closings l.rounds l.place l.name l.since) (numbers l.number (l.place - l.number))
    ≡ list_any (guards_round l.items l.closings l.rounds l.place l.name l.since) (numbers l.from (l.place - l.from))

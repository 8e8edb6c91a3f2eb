use Rattle.std.proofs.Common.{◌≡◌, ◌-◌}
use Rattle.std.specs.List.{list_any}
use Rattle.view_shapes.specs.Mentions.{numbers}
use Rattle.view_scope.specs.Allowed.{calls_own}
use Rattle.view_scope.proofs.allowed.calls_own_in.Given as goal

abbrev pub invariant-loop-number : goal.invariant-loop-number
invariant-loop-number l = list_any (calls_own l.items l.rounds l.class l.pattern) (numbers l.number (l.to - l.number))
    ≡ list_any (calls_own l.items l.rounds l.class l.pattern) (numbers l.from (l.to - l.from))

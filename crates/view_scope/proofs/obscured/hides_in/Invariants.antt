use Rattle.std.proofs.Common.{◌≡◌, ◌-◌}
use Rattle.std.specs.List.{list_any}
use Rattle.view_shapes.specs.Mentions.{numbers}
use Rattle.view_scope.specs.Obscured.{hides}
use Rattle.view_scope.proofs.obscured.hides_in.Given as goal

abbrev pub invariant-loop-number : goal.invariant-loop-number
invariant-loop-number l = list_any (hides l.map l.items l.class) (numbers l.number (l.to - l.number))
    ≡ list_any (hides l.map l.items l.class) (numbers l.from (l.to - l.from))

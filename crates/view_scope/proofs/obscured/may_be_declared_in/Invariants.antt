use Rattle.std.proofs.Common.{◌≡◌, ◌-◌}
use Rattle.std.specs.List.{list_any}
use Rattle.view_shapes.specs.Mentions.{numbers}
use Rattle.view_scope.specs.Obscured.{may_declare}
use Rattle.view_scope.proofs.obscured.may_be_declared_in.Given as goal

abbrev pub invariant-loop-number : goal.invariant-loop-number
invariant-loop-number l = list_any (may_declare l.items l.name) (numbers l.number (l.to - l.number))
    ≡ list_any (may_declare l.items l.name) (numbers l.from (l.to - l.from))

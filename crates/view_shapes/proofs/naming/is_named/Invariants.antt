use Rattle.std.proofs.Common.{◌≡◌, ◌-◌}
use Rattle.std.specs.List.{list_any}
use Rattle.view_shapes.specs.Mentions.{is_mention, numbers}
use Rattle.view_shapes.proofs.naming.is_named.Given as goal

abbrev pub invariant-loop-number : goal.invariant-loop-number
invariant-loop-number l = list_any (is_mention l.items l.name) (numbers l.number (l.to - l.number)) ≡ list_any (is_mention l.items l.name) (numbers l.from (l.to - l.from))

use Rattle.std.proofs.Common.{◌≡◌, ◌-◌, ◌++◌}
use Rattle.std.specs.List.{filter}
use Rattle.view_shapes.specs.Mentions.{is_mention, numbers}
use Rattle.view_shapes.proofs.naming.mentions.Given as goal

abbrev pub invariant-loop-number : goal.invariant-loop-number
invariant-loop-number l = l.numbers ++ filter (is_mention l.items l.name) (numbers l.number (l.to - l.number)) ≡ filter (is_mention l.items l.name) (numbers l.from (l.to - l.from))

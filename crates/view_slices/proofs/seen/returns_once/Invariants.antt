use Rattle.std.proofs.Common.{◌≡◌, ◌-◌}
use Rattle.view_shapes.specs.Mentions.{numbers}
use Rattle.view_slices.specs.Slices.{once}
use Rattle.view_slices.proofs.seen.returns_once.Given as goal

abbrev pub invariant-loop-k : goal.invariant-loop-k
invariant-loop-k l = once l.items (numbers l.k (l.to - l.k)) ≡ once l.items (numbers l.from (l.to - l.from))

use Rattle.std.proofs.Common.{◌≡◌, ◌-◌}
use Rattle.std.specs.List.{list_any}
use Rattle.view_shapes.specs.Mentions.{numbers}
use Rattle.view_slices.specs.Slices.{is_effect}
use Rattle.view_slices.proofs.seen.has_effects.Given as goal

abbrev pub invariant-loop-k : goal.invariant-loop-k
invariant-loop-k l = list_any (is_effect l.items) (numbers l.k (l.to - l.k)) ≡ list_any (is_effect l.items) (numbers l.from (l.to - l.from))

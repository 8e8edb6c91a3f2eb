use Rattle.std.proofs.Common.{◌≡◌, drop}
use Rattle.view_slices.specs.Reading.{slices}
use Rattle.view_slices.specs.Views.{are_apart}
use Rattle.view_slices.proofs.view.are_apart.Given as goal

abbrev pub invariant-loop-s : goal.invariant-loop-s
invariant-loop-s l = are_apart l.from (slices (drop l.s-index l.slices)) ≡ are_apart 0 (slices l.slices)

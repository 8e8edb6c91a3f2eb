use Rattle.std.proofs.Common.{◌≡◌, length}
use Rattle.view_slices.specs.Bounds.{are_prints_distinct}
use Rattle.view_slices.proofs.bounds.are_prints_distinct.Given as goal

abbrev pub invariant-loop-rest : goal.invariant-loop-rest
invariant-loop-rest l = are_prints_distinct l.rest ≡ are_prints_distinct l.fn.prints

abbrev pub decreases-loop-rest : goal.decreases-loop-rest
decreases-loop-rest l = length l.rest

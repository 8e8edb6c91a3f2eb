use Rattle.std.proofs.Common.{◌≡◌, length}
use Rattle.view_slices.specs.Bounds.{are_params_distinct}
use Rattle.view_slices.proofs.bounds.are_params_distinct.Given as goal

abbrev pub invariant-loop-rest : goal.invariant-loop-rest
invariant-loop-rest l = are_params_distinct l.rest ≡ are_params_distinct l.fn.params

abbrev pub decreases-loop-rest : goal.decreases-loop-rest
decreases-loop-rest l = length l.rest

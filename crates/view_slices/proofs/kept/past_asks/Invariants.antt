use Rattle.std.proofs.Common.{◌≡◌, length}
use Rattle.view_slices.specs.Kept.{past_asks}
use Rattle.view_statements.specs.Reading.{statements}
use Rattle.view_slices.proofs.kept.past_asks.Given as goal

abbrev pub invariant-loop-rest : goal.invariant-loop-rest
invariant-loop-rest l = past_asks (statements l.rest) ≡ past_asks (statements l.fn.sts)

abbrev pub decreases-loop-rest : goal.decreases-loop-rest
decreases-loop-rest l = length l.rest

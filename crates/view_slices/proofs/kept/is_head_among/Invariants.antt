use Rattle.std.proofs.Common.{◌≡◌, drop}
use Rattle.view_slices.specs.Kept.{beside_of, is_head_among}
use Rattle.view_statements.specs.Reading.{statements}
use Rattle.view_slices.proofs.kept.is_head_among.Given as goal

abbrev pub invariant-loop-st : goal.invariant-loop-st
invariant-loop-st l =
    is_head_among (beside_of l.b) l.t (statements (drop l.st-index l.sts)) ≡ is_head_among (beside_of l.b) l.t (statements l.sts)

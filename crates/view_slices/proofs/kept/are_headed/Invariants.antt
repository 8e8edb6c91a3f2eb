use Rattle.std.proofs.Common.{◌≡◌, drop}
use Rattle.view_slices.specs.Kept.{beside_of, are_headed}
use Rattle.view_statements.specs.Reading.{statements}
use Rattle.view_slices.proofs.kept.are_headed.Given as goal

abbrev pub invariant-loop-t : goal.invariant-loop-t
invariant-loop-t l =
    are_headed (beside_of l.b) l.variable (statements l.source) (statements (drop l.t-index l.written))
    ≡ are_headed (beside_of l.b) l.variable (statements l.source) (statements l.written)

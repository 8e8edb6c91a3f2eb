use Rattle.std.proofs.Common.{◌≡◌, ◌+◌, ◌*◌, drop}
use Rattle.view_slices.specs.Kept.{beside_of, are_kept}
use Rattle.view_statements.specs.Reading.{statements}
use Rattle.view_slices.proofs.kept.+kept.Given as goal

abbrev pub decreases-is_first : goal.decreases-is_first
decreases-is_first l = l.levels * 4 + 1

abbrev pub decreases-are_kept : goal.decreases-are_kept
decreases-are_kept l = l.levels * 4 + 2

abbrev pub decreases-is_kept : goal.decreases-is_kept
decreases-is_kept l = l.levels * 4

abbrev pub decreases-are_bodies_kept : goal.decreases-are_bodies_kept
decreases-are_bodies_kept l = l.levels * 4 + 3

abbrev pub invariant-are_kept-loop-s : goal.invariant-are_kept-loop-s
invariant-are_kept-loop-s l =
    are_kept (beside_of l.b) l.levels (statements (drop l.s-index l.source)) (statements l.rest)
    ≡ are_kept (beside_of l.b) l.levels (statements l.source) (statements l.written)

use Rattle.std.proofs.Common.{◌≡◌, drop}
use Rattle.qbs_base.specs.Scalar as spec
use Rattle.proof_store.proofs.same.same_cells.Given as goal

abbrev pub invariant-loop-x : goal.invariant-loop-x
invariant-loop-x l = spec.same_cells l.xs l.ys ≡ spec.same_cells (drop l.x-index l.xs) l.rest

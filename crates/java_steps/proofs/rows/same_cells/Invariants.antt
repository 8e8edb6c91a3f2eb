use Rattle.std.proofs.Common.{◌≡◌, drop}
use Rattle.qbs_base.specs.Scalar.{same_cells}
use Rattle.java_steps.proofs.rows.same_cells.Given as goal

abbrev pub invariant-loop-i : goal.invariant-loop-i
invariant-loop-i l = same_cells (drop l.i l.a) (drop l.i l.b) ≡ same_cells l.a l.b

use Rattle.std.proofs.Common.{◌≡◌, drop}
use Rattle.std.specs.List.{list_any}
use Rattle.qbs_base.specs.Scalar.{same_cells}
use Rattle.java_steps.proofs.rows.is_among.Given as goal

abbrev pub invariant-loop-row : goal.invariant-loop-row
invariant-loop-row l = list_any (λ b. same_cells l.cells b.cells) (drop l.row-index l.rows) ≡ list_any (λ b. same_cells l.cells b.cells) l.rows

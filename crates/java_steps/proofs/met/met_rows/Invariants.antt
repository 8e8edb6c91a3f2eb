use Rattle.std.proofs.Common.{take}
use Rattle.java_steps.specs.Met.{AreMet}
use Rattle.java_steps.proofs.met.met_rows.Given as goal

abbrev pub invariant-loop-row : goal.invariant-loop-row
invariant-loop-row l = AreMet l.met (take l.row-index l.rows)

-- The class is well typed.
use Rattle.std.proofs.Common.{ℕ, List, Option, refl}
use Rattle.sql_ast.specs.Tree.{PlainQuery}
use Rattle.java_mean.specs.WellTyped.{IsWellTyped}
use Rattle.sample.specs.Class.{sample_program}
use Rattle.sample_data.specs.Tables.{sample_schema}

pub well_typed : (read : List ℕ → Option PlainQuery) → IsWellTyped sample_schema read sample_program
unfolding sample_schema sample_program
well_typed read = refl

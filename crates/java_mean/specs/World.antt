-- What a program runs on.
use Rattle.std.specs.Prelude.{ℕ, List}
use Rattle.std.specs.declared.option.Option.{Option}
use Rattle.qbs_base.specs.declared.scalar.Scalar.{Scalar}
use Rattle.qbs_base.specs.Values.{Schema, Database}
use Rattle.java_mean.specs.Queries.{Answered}

-- the tables' columns, the tables' rows, and the answer of each query text to its arguments, none
-- where the text has no query
pub record World : Type 0 where
  pub schema : Schema
  pub db : Database
  pub ask : List ℕ → List Scalar → Option Answered

-- What the code's outcomes stand for.
use Rattle.java_mean.specs.Outcome as meant
use Rattle.java_interp.specs.declared.run.Outcome.{Outcome}
use Rattle.java_interp.specs.declared.run.Outcome.TheVariants.{Done, Faulted, OutOfTurns}
use Rattle.java_interp.specs.declared.run.Reached.{Reached}
use Rattle.java_interp.specs.declared.run.Reached.TheVariants.{Comes, Stuck}

abbrev pub outcome_in : Outcome → meant.Outcome
outcome_in (Done prints result') = meant.Done prints result'
outcome_in (Faulted fault at) = meant.Faulted fault at
outcome_in OutOfTurns = meant.OutOfTurns

abbrev pub reached : Reached → meant.Outcome
reached (Comes outcome) = outcome_in outcome
reached Stuck = meant.Stuck

-- Outcomes with the place of a fault left aside.
use Rattle.java_ast.specs.Unplaced.{nowhere}
use Rattle.java_mean.specs.Outcome.{Outcome, Done, Faulted, OutOfTurns, Stuck}

abbrev pub outcome_nowhere : Outcome → Outcome
outcome_nowhere (Done lines value) = Done lines value
outcome_nowhere (Faulted fault at) = Faulted fault nowhere
outcome_nowhere OutOfTurns = OutOfTurns
outcome_nowhere Stuck = Stuck

use Rattle.java_loops.proofs.Typing.TypedAccumulators.{accumulators_there}
use Rattle.java_loops.proofs.accumulators.accumulators_are_for_needed_variables.Goals as goal

pub returns : goal.returns
returns c = accumulators_there

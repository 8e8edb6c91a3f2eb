use Rattle.java_loops.proofs.Placing.PlaceSpelled.{spelled_there}
use Rattle.java_loops.proofs.accumulators.variables_have_their_spelled_types.Goals as goal

pub returns : goal.returns
returns c = spelled_there

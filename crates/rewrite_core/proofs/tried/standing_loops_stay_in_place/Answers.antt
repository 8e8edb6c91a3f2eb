-- The loops that stand stay in place.
use Rattle.rewrite_core.proofs.Untried.{standing_in_place}
use Rattle.rewrite_core.proofs.tried.standing_loops_stay_in_place.Goals as goal

pub returns : goal.returns
returns c = standing_in_place

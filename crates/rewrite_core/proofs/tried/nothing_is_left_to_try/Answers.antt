-- After all tries no loop is left to try.
use Rattle.rewrite_core.proofs.Untried.{nothing_left}
use Rattle.rewrite_core.proofs.tried.nothing_is_left_to_try.Goals as goal

pub returns : goal.returns
returns c = nothing_left

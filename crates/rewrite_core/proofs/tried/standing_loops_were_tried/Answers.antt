-- The loops that stand were tried.
use Rattle.rewrite_core.proofs.Untried.{standing_tried}
use Rattle.rewrite_core.proofs.tried.standing_loops_were_tried.Goals as goal

pub returns : goal.returns
returns c = standing_tried

use Rattle.spreads.proofs.Spreading.{spread_covers}
use Rattle.spreads.proofs.laws.spreads_mean_their_loops.Goals as goal

pub returns : goal.returns
returns c = spread_covers

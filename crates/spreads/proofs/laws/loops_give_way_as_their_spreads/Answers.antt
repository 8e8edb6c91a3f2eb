use Rattle.spreads.proofs.Transfer.{transfer}
use Rattle.spreads.proofs.laws.loops_give_way_as_their_spreads.Goals as goal

pub returns : goal.returns
returns c = transfer

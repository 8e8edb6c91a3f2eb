use Rattle.std.proofs.Common.{length}
use Rattle.lowering.proofs.places.located.+spot_below.Given as goal

abbrev pub decreases-spot_below : goal.decreases-spot_below
decreases-spot_below l = length l.path.now

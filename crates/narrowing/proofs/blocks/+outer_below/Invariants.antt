use Rattle.std.proofs.Common.{length}
use Rattle.narrowing.proofs.blocks.+outer_below.Given as goal

abbrev pub decreases-outer_below : goal.decreases-outer_below
decreases-outer_below l = length l.path.now

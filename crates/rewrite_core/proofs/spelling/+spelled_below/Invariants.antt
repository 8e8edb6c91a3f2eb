use Rattle.std.proofs.Common.{length}
use Rattle.rewrite_core.proofs.spelling.+spelled_below.Given as goal

abbrev pub decreases-spelled_below : goal.decreases-spelled_below
decreases-spelled_below l = length l.path.now

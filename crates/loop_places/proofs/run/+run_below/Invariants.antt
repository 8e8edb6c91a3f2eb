use Rattle.std.proofs.Common.{length}
use Rattle.loop_places.proofs.run.+run_below.Given as goal

abbrev pub decreases-run_below : goal.decreases-run_below
decreases-run_below l = length l.path.now

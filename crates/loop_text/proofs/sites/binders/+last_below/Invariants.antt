use Rattle.std.proofs.Common.{length}
use Rattle.loop_text.proofs.sites.binders.+last_below.Given as goal

abbrev pub decreases-last_below : goal.decreases-last_below
decreases-last_below l = length l.bindings.now

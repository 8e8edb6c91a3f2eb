use Rattle.std.proofs.Common.{length}
use Rattle.vc_gen.proofs.outline.+stages.Given as goal

abbrev pub decreases-stages : goal.decreases-stages
decreases-stages l = length l.ys.now

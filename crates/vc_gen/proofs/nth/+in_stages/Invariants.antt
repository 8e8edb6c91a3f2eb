use Rattle.std.proofs.Common.{length}
use Rattle.vc_gen.proofs.nth.+in_stages.Given as goal

abbrev pub decreases-in_stages : goal.decreases-in_stages
decreases-in_stages l = length l.ys.now

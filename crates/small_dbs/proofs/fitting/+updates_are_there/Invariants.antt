use Rattle.std.proofs.Common.{length}
use Rattle.small_dbs.proofs.fitting.+updates_are_there.Given as goal

abbrev pub decreases-updates_are_there : goal.decreases-updates_are_there
decreases-updates_are_there l = length l.accs.now

use Rattle.std.proofs.Common.{length}
use Rattle.small_dbs.proofs.fitting.+sorts_are_there.Given as goal

abbrev pub decreases-sorts_are_there : goal.decreases-sorts_are_there
decreases-sorts_are_there l = length l.lists.now

use Rattle.std.proofs.Common.{length}
use Rattle.small_dbs.proofs.fitting.+keys_are_there.Given as goal

abbrev pub decreases-keys_are_there : goal.decreases-keys_are_there
decreases-keys_are_there l = length l.keys.now

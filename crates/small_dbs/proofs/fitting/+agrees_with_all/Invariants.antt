use Rattle.std.proofs.Common.{length}
use Rattle.small_dbs.proofs.fitting.+agrees_with_all.Given as goal

abbrev pub decreases-agrees_with_all : goal.decreases-agrees_with_all
decreases-agrees_with_all l = length l.atoms.now

use Rattle.std.proofs.Common.{length}
use Rattle.small_dbs.proofs.fitting.+atoms_are_there.Given as goal

abbrev pub decreases-atoms_are_there : goal.decreases-atoms_are_there
decreases-atoms_are_there l = length l.atoms.now

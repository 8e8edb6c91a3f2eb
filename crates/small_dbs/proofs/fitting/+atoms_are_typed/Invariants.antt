use Rattle.std.proofs.Common.{length}
use Rattle.small_dbs.proofs.fitting.+atoms_are_typed.Given as goal

abbrev pub decreases-atoms_are_typed : goal.decreases-atoms_are_typed
decreases-atoms_are_typed l = length l.atoms.now

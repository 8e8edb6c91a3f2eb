use Rattle.std.proofs.Common.{length}
use Rattle.small_dbs.proofs.literals.+put_atoms.Given as goal

abbrev pub decreases-put_atoms : goal.decreases-put_atoms
decreases-put_atoms l = length l.atoms.now

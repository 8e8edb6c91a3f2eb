use Rattle.std.proofs.Common.{length}
use Rattle.small_dbs.proofs.entries.+member_type.Given as goal

abbrev pub decreases-member_type : goal.decreases-member_type
decreases-member_type l = length l.atoms.now

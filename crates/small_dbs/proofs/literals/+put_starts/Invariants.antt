use Rattle.std.proofs.Common.{length}
use Rattle.small_dbs.proofs.literals.+put_starts.Given as goal

abbrev pub decreases-put_starts : goal.decreases-put_starts
decreases-put_starts l = length l.accs.now

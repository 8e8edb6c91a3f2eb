use Rattle.std.proofs.Common.{length}
use Rattle.small_dbs.proofs.fitting.+updates_are_typed.Given as goal

abbrev pub decreases-updates_are_typed : goal.decreases-updates_are_typed
decreases-updates_are_typed l = length l.accs.now

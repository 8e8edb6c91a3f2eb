use Rattle.std.proofs.Common.{◌-◌, length}
use Rattle.proof_store.proofs.same.+same_tables_from.Given as goal

abbrev pub decreases-same_tables_from : goal.decreases-same_tables_from
decreases-same_tables_from l = length l.a.now - l.n

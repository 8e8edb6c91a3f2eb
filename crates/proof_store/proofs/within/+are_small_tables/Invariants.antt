use Rattle.std.proofs.Common.{◌-◌, length}
use Rattle.proof_store.proofs.within.+are_small_tables.Given as goal

abbrev pub decreases-are_small_tables : goal.decreases-are_small_tables
decreases-are_small_tables l = length l.db.now - l.n

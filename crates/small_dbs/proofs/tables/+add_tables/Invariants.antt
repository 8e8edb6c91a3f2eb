use Rattle.std.proofs.Common.{length}
use Rattle.small_dbs.proofs.tables.+add_tables.Given as goal

abbrev pub decreases-add_tables : goal.decreases-add_tables
decreases-add_tables l = length l.tables.now

use Rattle.std.proofs.Common.{length}
use Rattle.sql_emit.proofs.filter.+quiet_formulas.Given as goal

abbrev pub decreases-quiet_formulas : goal.decreases-quiet_formulas
decreases-quiet_formulas l = length l.pool.now

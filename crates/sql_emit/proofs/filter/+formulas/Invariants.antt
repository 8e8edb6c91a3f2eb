use Rattle.std.proofs.Common.{length}
use Rattle.sql_emit.proofs.filter.+formulas.Given as goal

abbrev pub decreases-formulas : goal.decreases-formulas
decreases-formulas l = length l.pool.now

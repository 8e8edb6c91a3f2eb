use Rattle.std.proofs.Common.{length}
use Rattle.sql_parts.proofs.limiting.+limits.Given as goal

abbrev pub decreases-limits : goal.decreases-limits
decreases-limits l = length l.loops.now

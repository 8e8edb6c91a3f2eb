use Rattle.std.proofs.Common.{length}
use Rattle.query_search.proofs.choices.+digits_of.Given as goal

abbrev pub decreases-digits_of : goal.decreases-digits_of
decreases-digits_of l = length l.pool.now

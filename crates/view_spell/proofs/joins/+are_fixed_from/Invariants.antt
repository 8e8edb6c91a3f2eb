use Rattle.std.proofs.Common.{length}
use Rattle.view_spell.proofs.joins.+are_fixed_from.Given as goal

abbrev pub decreases-are_fixed_from : goal.decreases-are_fixed_from
decreases-are_fixed_from l = length l.columns.now

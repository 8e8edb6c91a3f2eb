use Rattle.std.proofs.Common.{length}
use Rattle.view_spell.proofs.joins.+push_bound.Given as goal

abbrev pub decreases-push_bound : goal.decreases-push_bound
decreases-push_bound l = length l.from.now

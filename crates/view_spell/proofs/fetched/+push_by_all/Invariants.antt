use Rattle.std.proofs.Common.{length}
use Rattle.view_spell.proofs.fetched.+push_by_all.Given as goal

abbrev pub decreases-push_by_all : goal.decreases-push_by_all
decreases-push_by_all l = length l.patterns.now

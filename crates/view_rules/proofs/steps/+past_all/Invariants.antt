use Rattle.std.proofs.Common.{length}
use Rattle.view_rules.proofs.steps.+past_all.Given as goal

abbrev pub decreases-past_all : goal.decreases-past_all
decreases-past_all l = length l.words.now

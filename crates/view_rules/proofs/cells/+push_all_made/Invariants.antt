use Rattle.std.proofs.Common.{length}
use Rattle.view_rules.proofs.cells.+push_all_made.Given as goal

abbrev pub decreases-push_all_made : goal.decreases-push_all_made
decreases-push_all_made l = length l.words.now

use Rattle.std.proofs.Common.{length}
use Rattle.view_rules.proofs.literals.+is_up_to.Given as goal

abbrev pub decreases-is_up_to : goal.decreases-is_up_to
decreases-is_up_to l = length l.digits.now

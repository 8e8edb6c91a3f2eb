use Rattle.std.proofs.Common.{length}
use Rattle.view_shapes.proofs.finding.+is_one_of_signs.Given as goal

abbrev pub decreases-is_one_of_signs : goal.decreases-is_one_of_signs
decreases-is_one_of_signs l = length l.signs.now

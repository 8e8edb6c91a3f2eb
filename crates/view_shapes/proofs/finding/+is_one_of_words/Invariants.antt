use Rattle.std.proofs.Common.{length}
use Rattle.view_shapes.proofs.finding.+is_one_of_words.Given as goal

abbrev pub decreases-is_one_of_words : goal.decreases-is_one_of_words
decreases-is_one_of_words l = length l.words.now

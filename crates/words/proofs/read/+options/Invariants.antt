use Rattle.std.proofs.Common.{◌*◌, ◌+◌, length}
use Rattle.words.proofs.read.+options.Given as goal

abbrev pub decreases-options_of : goal.decreases-options_of
decreases-options_of l = length l.words.now * 2

abbrev pub decreases-value_then : goal.decreases-value_then
decreases-value_then l = length l.words.now * 2 + 1

abbrev pub decreases-option_then : goal.decreases-option_then
decreases-option_then l = length l.words.now * 2 + 1

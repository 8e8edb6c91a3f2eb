use Rattle.std.proofs.Common.{length}
use Rattle.view_slices.proofs.words.+add_clear_names.Given as goal

abbrev pub decreases-add_clear_names : goal.decreases-add_clear_names
decreases-add_clear_names l = length l.names.now

use Rattle.std.proofs.Common.{length}
use Rattle.view_slices.proofs.shown.+put_further_params.Given as goal

abbrev pub decreases-put_further_params : goal.decreases-put_further_params
decreases-put_further_params l = length l.params.now

use Rattle.std.proofs.Common.{length}
use Rattle.view_slices.proofs.shown.+put_column_prints.Given as goal

abbrev pub decreases-put_column_prints : goal.decreases-put_column_prints
decreases-put_column_prints l = length l.columns.now

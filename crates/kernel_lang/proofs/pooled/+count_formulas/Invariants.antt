use Rattle.std.proofs.Common.{length}
use Rattle.kernel_lang.proofs.pooled.+count_formulas.Given as goal

abbrev pub decreases-count_formulas : goal.decreases-count_formulas
decreases-count_formulas l = length l.accs.now

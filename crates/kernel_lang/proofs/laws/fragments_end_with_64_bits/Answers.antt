use Rattle.kernel_lang.proofs.EndLongs.{ends-fit, end-fits}
use Rattle.kernel_lang.proofs.laws.fragments_end_with_64_bits.Goals as goal

pub returns-clause-all : goal.returns-clause-all
returns-clause-all c = ends-fit

pub returns-clause-each : goal.returns-clause-each
returns-clause-each c = end-fits

use Rattle.rewrite_core.proofs.UnnestWrittenPrograms.{unnested_fine}
use Rattle.rewrite_core.proofs.unnest_texts.unnested_programs_are_written.Goals as goal

pub returns : goal.returns
returns c = λ schema size budget p may grammar written. unnested_fine schema size budget p may (grammar, written)

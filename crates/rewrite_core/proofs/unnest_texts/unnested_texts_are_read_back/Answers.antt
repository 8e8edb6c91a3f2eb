use Rattle.rewrite_core.proofs.UnnestWrittenTexts.{unnested_back}
use Rattle.rewrite_core.proofs.unnest_texts.unnested_texts_are_read_back.Goals as goal

pub returns : goal.returns
returns c = unnested_back

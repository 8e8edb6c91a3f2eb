use Rattle.rewrite_core.proofs.UnnestReplaced.{unnested_is_replaced}
use Rattle.rewrite_core.proofs.unnest_laws.unnested_is_replaced.Goals as goal

pub returns : goal.returns
returns c = unnested_is_replaced

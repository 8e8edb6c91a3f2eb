use Rattle.rewrite_core.proofs.UnnestGives.{unnested_loop_keeps}
use Rattle.rewrite_core.proofs.unnest_laws.unnested_loop_keeps.Goals as goal

pub returns : goal.returns
returns c = unnested_loop_keeps

-- The lowered fragment of a loop of the kernel form means the loop.
use Rattle.java_loops.proofs.Lowering.LowerChains.{fragments_mean}
use Rattle.java_loops.proofs.meaning.fragments_mean_their_loops.Goals as goal

pub returns : goal.returns
returns c = fragments_mean

-- The lowered fragment of a loop of the kernel form is valid.
use Rattle.java_loops.proofs.Lowering.LowerValid.{fragments_valid}
use Rattle.java_loops.proofs.meaning.lowered_fragments_are_valid.Goals as goal

pub returns : goal.returns
returns c = fragments_valid

use Rattle.java_stretches.proofs.WorkedPatch.{worked}
use Rattle.java_stretches.proofs.patch_examples.a_loop_gives_way_in_a_source.Goals as goal

pub returns : goal.returns
returns c = worked

use Rattle.java_stretches.proofs.Worked.{worked}
use Rattle.java_stretches.proofs.examples.a_loop_gives_way_in_a_text.Goals as goal

pub returns : goal.returns
returns c = worked

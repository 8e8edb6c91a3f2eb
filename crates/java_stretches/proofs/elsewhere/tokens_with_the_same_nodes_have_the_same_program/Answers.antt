use Rattle.java_stretches.proofs.SamePrograms.{same_program}
use Rattle.java_stretches.proofs.elsewhere.tokens_with_the_same_nodes_have_the_same_program.Goals as goal

pub returns : goal.returns
returns c = same_program

use Rattle.java_stretches.proofs.Kept.{readable}
use Rattle.java_stretches.proofs.elsewhere.programs_that_are_read_are_programs.Goals as goal

pub returns : goal.returns
returns c = readable

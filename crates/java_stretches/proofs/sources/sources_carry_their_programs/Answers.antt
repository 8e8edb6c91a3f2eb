use Rattle.java_stretches.proofs.Carried.{carried}
use Rattle.java_stretches.proofs.sources.sources_carry_their_programs.Goals as goal

pub returns : goal.returns
returns c = carried

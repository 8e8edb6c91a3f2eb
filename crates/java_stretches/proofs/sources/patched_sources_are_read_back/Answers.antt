use Rattle.java_stretches.proofs.Carried.{read_back}
use Rattle.java_stretches.proofs.sources.patched_sources_are_read_back.Goals as goal

pub returns : goal.returns
returns c = read_back

-- Flags after the statement that sets them.
use Rattle.java_loops.specs.Walks.ChainLaws.{FlagsAreRuns}
use Rattle.java_loops.proofs.Walks.ChainRuns.{settles_matches}
use Rattle.java_loops.proofs.chains.flags_are_runs.Goals as goal

flags_run : FlagsAreRuns
flags_run f quiet n flags s bs flags' w k env rows h m = settles_matches f w k quiet n flags s bs flags' h env rows m

pub returns : goal.returns
returns c = flags_run

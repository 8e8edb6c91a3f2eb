-- The worked loop.
use Rattle.java_loops.proofs.Walks.ChainExample.{worked_chains, worked_runs}
use Rattle.java_loops.proofs.chains.worked_loop_has_chains.Goals as goal

pub returns-clause-chains : goal.returns-clause-chains
returns-clause-chains c = worked_chains

pub returns-clause-runs : goal.returns-clause-runs
returns-clause-runs c = worked_runs

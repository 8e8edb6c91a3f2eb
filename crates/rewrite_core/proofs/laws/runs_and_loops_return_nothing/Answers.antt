-- A run and its loop return nothing.
use Rattle.rewrite_core.proofs.NoReturns.{run_returns}
use Rattle.rewrite_core.proofs.laws.runs_and_loops_return_nothing.Goals as goal

pub returns : goal.returns
returns c = run_returns

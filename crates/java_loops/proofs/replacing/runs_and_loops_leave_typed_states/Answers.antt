-- The states before and after a loop.
use Rattle.java_loops.proofs.Walks.TypedPasses.{run_leaves_typed, loop_leaves_typed}
use Rattle.java_loops.proofs.replacing.runs_and_loops_leave_typed_states.Goals as goal

pub returns-clause-run : goal.returns-clause-run
returns-clause-run c = run_leaves_typed

pub returns-clause-whole : goal.returns-clause-whole
returns-clause-whole c = loop_leaves_typed

-- What doesn't compute by itself.
use Rattle.java_mean.proofs.Shown.{shown_J_asking}
use Rattle.java_mean.proofs.worked.queries_do_what_loops_do.Goals as goal

pub returns-clause-counted : goal.returns-clause-counted
returns-clause-counted c = shown_J_asking

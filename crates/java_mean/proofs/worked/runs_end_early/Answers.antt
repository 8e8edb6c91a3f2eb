-- What doesn't compute by itself.
use Rattle.java_mean.proofs.Shown.{shown_forever}
use Rattle.java_mean.proofs.worked.runs_end_early.Goals as goal

pub returns-clause-forever : goal.returns-clause-forever
returns-clause-forever c = shown_forever

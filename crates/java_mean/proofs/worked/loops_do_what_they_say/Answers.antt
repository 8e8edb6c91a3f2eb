-- What doesn't compute by itself.
use Rattle.java_mean.proofs.Shown.{shown_J}
use Rattle.java_mean.proofs.worked.loops_do_what_they_say.Goals as goal

pub returns-clause-printed : goal.returns-clause-printed
returns-clause-printed c = shown_J

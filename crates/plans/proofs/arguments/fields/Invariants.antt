use Rattle.plans.proofs.Called.{Taking}
use Rattle.plans.proofs.arguments.fields.Given as goal

abbrev pub invariant-loop-i : goal.invariant-loop-i
invariant-loop-i l = Taking l.params l.words l.i l.taken

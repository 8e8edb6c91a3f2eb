use Rattle.loop_text.proofs.Indexed.BoundFound.{BoundBefore}
use Rattle.loop_text.proofs.sites.marks.binders_of.Given as goal

abbrev pub invariant-loop-n : goal.invariant-loop-n
invariant-loop-n l = BoundBefore l.found l.n l.all

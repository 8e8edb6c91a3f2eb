use Rattle.loop_text.proofs.Indexed.IndexedUnder.{UndersBefore}
use Rattle.loop_text.proofs.sites.marks.unders_of.Given as goal

abbrev pub invariant-loop-n : goal.invariant-loop-n
invariant-loop-n l = UndersBefore l.found l.n l.all

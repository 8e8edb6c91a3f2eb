use Rattle.std.proofs.Common.{◌≡◌, map, length}
use Rattle.kernel_lang.specs.Plain.{accumulator}
use Rattle.query_search.specs.Remembered.{AreOutlinesOf}
use Rattle.query_search.proofs.choices.outlines.Given as goal

abbrev pub invariant-loop-a : goal.invariant-loop-a
invariant-loop-a l = AreOutlinesOf (map accumulator l.accs) l.all × (length l.all ≡ l.a-index)

use Rattle.std.proofs.Common.{drop, map}
use Rattle.std.specs.List.{AllByRecursion}
use Rattle.kernel_lang.specs.Plain.{Accumulator, accumulator}
use Rattle.sql_parts.specs.Given.{StartIsHeld}
use Rattle.sql_parts.proofs.held.read_starts.Given as goal

abbrev pub invariant-loop-acc : goal.invariant-loop-acc
invariant-loop-acc l = AllByRecursion (λ (a : Accumulator). StartIsHeld a.start) (map accumulator (drop l.acc-index l.accs)) → AllByRecursion (λ (a : Accumulator). StartIsHeld a.start) (map accumulator l.accs)

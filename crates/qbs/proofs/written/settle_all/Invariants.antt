use Rattle.qbs.specs.Looks.{AreFewer}
use Rattle.qbs.proofs.written.settle_all.Given as goal

abbrev pub invariant-loop : goal.invariant-loop
invariant-loop l = AreFewer l.fn.fates.items l.fates.items

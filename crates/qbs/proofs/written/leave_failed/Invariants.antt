use Rattle.qbs.specs.Looks.{AreFewer}
use Rattle.qbs.proofs.written.leave_failed.Given as goal

abbrev pub invariant-loop-number : goal.invariant-loop-number
invariant-loop-number l = AreFewer l.fn.spelled.items l.spelled.items

use Rattle.std.proofs.Common.{◌≡◌, take}
use Rattle.term_cases.specs.Sums.{numbers}
use Rattle.term_cases.proofs.totals.pay.Given as goal

abbrev pub invariant-loop-n : goal.invariant-loop-n
invariant-loop-n l = l.db ≡ numbers (take l.n-index l.ns)

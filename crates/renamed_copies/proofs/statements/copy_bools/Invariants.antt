use Rattle.std.proofs.Common.{◌≡◌, ◌++◌, drop}
use Rattle.renamed_copies.proofs.statements.copy_bools.Given as goal

abbrev pub invariant-loop-b : goal.invariant-loop-b
invariant-loop-b l = l.all ++ drop l.b-index l.bools ≡ l.bools

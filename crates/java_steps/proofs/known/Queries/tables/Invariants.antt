use Rattle.std.proofs.Common.{◌≡◌}
use Rattle.java_steps.proofs.known.Queries.tables.Given as goal

abbrev pub invariant-loop-number : goal.invariant-loop-number
invariant-loop-number l = l.tables ≡ l.db

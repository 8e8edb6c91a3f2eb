use Rattle.std.proofs.Common.{◌≡◌}
use Rattle.java_steps.proofs.gather.+gather.Given as goal

abbrev pub invariant-in_expressions-loop-e : goal.invariant-in_expressions-loop-e
invariant-in_expressions-loop-e l = l.queries.schema ≡ l.initial.queries.schema

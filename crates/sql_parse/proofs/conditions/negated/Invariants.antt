use Rattle.std.proofs.Common.{◌≡◌}
use Rattle.sql_parse.specs.Negations.{nots}
use Rattle.sql_parse.specs.Said.{condition_of}
use Rattle.sql_parse.proofs.conditions.negated.Given as goal

abbrev pub invariant-loop : goal.invariant-loop
invariant-loop l = condition_of l.cond.value ≡ nots l.counter (condition_of l.fn.cond.value)

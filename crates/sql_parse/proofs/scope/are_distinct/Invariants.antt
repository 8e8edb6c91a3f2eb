use Rattle.sql_parse.proofs.Distinct.{AreMet}
use Rattle.sql_parse.proofs.scope.are_distinct.Given as goal

abbrev pub invariant-loop-number : goal.invariant-loop-number
invariant-loop-number l = AreMet l.met l.own l.number

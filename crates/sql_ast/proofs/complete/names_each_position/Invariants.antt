use Rattle.std.proofs.Common.{◌≡◌, true}
use Rattle.sql_ast.specs.Keys.{name_positions}
use Rattle.sql_ast.proofs.complete.names_each_position.Given as goal

abbrev pub invariant-loop-i : goal.invariant-loop-i
invariant-loop-i l = name_positions l.i l.q.keys ≡ true

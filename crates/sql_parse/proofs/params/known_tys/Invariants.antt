use Rattle.std.proofs.Common.{◌≡◌, Some}
use Rattle.sql_ast.specs.Typing.{tys_up_to}
use Rattle.sql_parse.specs.Types.{param_at}
use Rattle.sql_parse.proofs.params.known_tys.Given as goal

abbrev pub invariant-loop-number : goal.invariant-loop-number
invariant-loop-number l = tys_up_to (param_at l.params) l.number ≡ Some l.tys

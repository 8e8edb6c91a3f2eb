use Rattle.std.proofs.Common.{◌≡◌, ◌+◌, bytes_eq, drop}
use Rattle.java_loops.specs.Lowering.Numbering.{number_where}
use Rattle.java_ast.specs.Names.{names_lent}
use Rattle.lowering.proofs.numbering.named_values.known_number.Given as goal

abbrev pub invariant-loop-i : goal.invariant-loop-i
invariant-loop-i l = l.i + number_where (bytes_eq l.ids) (names_lent (drop l.i l.known)) ≡ number_where (bytes_eq l.ids) (names_lent l.known)

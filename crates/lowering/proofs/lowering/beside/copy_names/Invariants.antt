use Rattle.std.proofs.Common.{◌≡◌, ◌++◌, drop}
use Rattle.java_ast.specs.Names.{names_lent}
use Rattle.lowering.proofs.lowering.beside.copy_names.Given as goal

abbrev pub invariant-loop-x : goal.invariant-loop-x
invariant-loop-x l = l.copies ++ names_lent (drop l.x-index l.names) ≡ names_lent l.names

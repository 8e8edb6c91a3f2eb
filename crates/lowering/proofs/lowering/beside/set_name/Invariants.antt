use Rattle.std.proofs.Common.{◌≡◌, drop}
use Rattle.java_ast.specs.Reading.{statement}
use Rattle.lowering.specs.InCode.LoweredInCode.{set_among}
use Rattle.java_ast.specs.Names.{names_lent}
use Rattle.lowering.proofs.lowering.beside.set_name.Given as goal

abbrev pub invariant-loop-x : goal.invariant-loop-x
invariant-loop-x l = set_among (names_lent (drop l.x-index l.names)) (statement l.s) ≡ set_among (names_lent l.names) (statement l.s)

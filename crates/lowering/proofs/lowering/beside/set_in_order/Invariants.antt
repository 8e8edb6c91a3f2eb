use Rattle.std.proofs.Common.{◌≡◌, ◌++◌, drop}
use Rattle.java_ast.specs.Reading.{statements}
use Rattle.java_loops.specs.Lowering.Lowered.{set_in_order}
use Rattle.java_ast.specs.Names.{names_lent}
use Rattle.lowering.proofs.lowering.beside.set_in_order.Given as goal

abbrev pub invariant-loop-s : goal.invariant-loop-s
invariant-loop-s l = names_lent l.ordered ++ set_in_order (names_lent l.names) (statements (drop l.s-index l.run)) ≡ set_in_order (names_lent l.names) (statements l.run)

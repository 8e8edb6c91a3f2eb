use Rattle.std.proofs.Common.{◌≡◌, drop}
use Rattle.std.specs.Prelude.{option_copied}
use Rattle.java_ast.specs.Reading.{statements}
use Rattle.java_loops.specs.Lowering.Placing.{scope_past}
use Rattle.lowering.proofs.places.scopes.declare_all.Given as goal

abbrev pub invariant-loop-s : goal.invariant-loop-s
invariant-loop-s l = scope_past (option_copied l.fn.schema) l.scope (statements (drop l.s-index l.block)) ≡ scope_past (option_copied l.fn.schema) l.fn.scope (statements l.block)

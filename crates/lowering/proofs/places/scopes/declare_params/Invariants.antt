use Rattle.std.proofs.Common.{◌≡◌, drop, map}
use Rattle.std.specs.Prelude.{option_copied}
use Rattle.java_ast.specs.Reading.{param}
use Rattle.java_loops.specs.Lowering.Placing.{scope_of_params}
use Rattle.lowering.proofs.places.scopes.declare_params.Given as goal

abbrev pub invariant-loop-p : goal.invariant-loop-p
invariant-loop-p l = scope_of_params (option_copied l.fn.schema) l.scope (map param (drop l.p-index l.params)) ≡ scope_of_params (option_copied l.fn.schema) l.fn.scope (map param l.params)

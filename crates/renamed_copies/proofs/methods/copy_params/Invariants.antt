use Rattle.std.proofs.Common.{◌≡◌, ◌++◌, drop, map}
use Rattle.java_ast.specs.Reading.{param}
use Rattle.renamed_copies.proofs.methods.copy_params.Given as goal

abbrev pub invariant-loop-p : goal.invariant-loop-p
invariant-loop-p l = map param (l.all ++ drop l.p-index l.params) ≡ map param l.params

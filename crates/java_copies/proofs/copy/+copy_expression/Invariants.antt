use Rattle.std.proofs.Common.{◌≡◌, ◌++◌, drop}
use Rattle.java_ast.specs.Reading.{expressions}
use Rattle.java_copies.proofs.copy.+copy_expression.Given as goal

abbrev pub invariant-copy_expressions-loop-e : goal.invariant-copy_expressions-loop-e
invariant-copy_expressions-loop-e l = expressions (l.all.items ++ drop l.e-index l.list) ≡ expressions l.list

use Rattle.std.proofs.Common.{◌≡◌, ◌++◌, drop}
use Rattle.java_ast.specs.Reading.{statements}
use Rattle.java_copies.proofs.copy.+copy_statement.Given as goal

abbrev pub invariant-copy_statements-loop-s : goal.invariant-copy_statements-loop-s
invariant-copy_statements-loop-s l = statements (l.all.items ++ drop l.s-index l.block) ≡ statements l.block

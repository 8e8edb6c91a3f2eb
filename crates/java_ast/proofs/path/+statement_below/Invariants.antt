use Rattle.std.proofs.Common.{length}
use Rattle.java_ast.proofs.path.+statement_below.Given as goal

abbrev pub decreases-statement_below : goal.decreases-statement_below
decreases-statement_below l = length l.path.now

-- Lists of statements one behind the other.
use Rattle.std.specs.Prelude.{List, [], ◌∷◌, ◌++◌}
use Rattle.std.proofs.Common.{◌≡◌, refl, ap}
use Rattle.java_ast.specs.declared.tree.Stmt.{Stmt}
use Rattle.java_ast.specs.Reading.{statement, statements}
use Rattle.java_ast.specs.Path.{and_then}
use Rattle.java_ast.specs.Tree.{Then}

pub appended : (a b : List Stmt) → statements (a ++ b) ≡ and_then (statements a) (statements b)
appended [] b = refl
appended (s ∷ a) b = ap (Then (statement s)) (appended a b)

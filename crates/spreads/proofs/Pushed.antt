-- A statement that is put behind others.
use Rattle.std.specs.Prelude.{List, [], ◌∷◌, ◌++◌}
use Rattle.std.proofs.Common.{◌≡◌, ap, ◌∙◌}
use Rattle.java_ast.specs.declared.tree.Stmt.{Stmt}
use Rattle.java_ast.specs.Path.{and_then}
use Rattle.java_ast.specs.Reading.{statement, statements}
use Rattle.java_ast.specs.Tree.{Nothing, Then}
use Rattle.java_ast.proofs.Joined.{appended}

pub pushed : (old new : List Stmt) (s : Stmt) → new ≡ old ++ s ∷ [] → statements new ≡ and_then (statements old) (Then (statement s) Nothing)
pushed old new s e = ap statements e ∙ appended old (s ∷ [])

-- The first loop at a line and column, of paths that are listed.
use Rattle.std.specs.Prelude.{ℕ, List, [], ◌∷◌, Bool, false, ◌&&◌, ◌==◌, Option, Some, None, if◌then◌else◌}
use Rattle.java_ast.specs.Path.{statement_at}
use Rattle.java_ast.specs.Spans.{place_of}
use Rattle.java_ast.specs.Tree.{Statement, PlainProgram}

-- the statement stands at this line and column
abbrev pub is_at : ℕ → ℕ → Option Statement → Bool
is_at line column (Some s) = ((place_of s).line == line) && ((place_of s).column == column)
is_at line column None = false

-- the first of these paths that leads to a statement at this line and column
abbrev pub path_to : ℕ → ℕ → PlainProgram → List (List ℕ) → Option (List ℕ)
path_to line column p [] = None
path_to line column p (path ∷ paths) = if is_at line column (statement_at path p) then Some path else path_to line column p paths

-- Paths to loops.
use Rattle.std.specs.Prelude.{◌≡◌, ℕ, List, true}
use Rattle.std.specs.List.{list_any}
use Rattle.java_ast.specs.Tree.{PlainProgram}
use Rattle.tor_terms.specs.Same.{same_numbers}
use Rattle.loop_text.specs.Statements.Loops.{loops_of}

-- the path is that of a loop of the program
abbrev pub IsLoopOf : PlainProgram → List ℕ → Type 0
IsLoopOf p path = list_any (same_numbers path) (loops_of p) ≡ true

-- Statements that are looked up by their numbers.
use Rattle.std.specs.Prelude.{ℕ, ◌-◌, List, [], ◌∷◌}
use Rattle.std.specs.declared.option.Option.{Option}
use Rattle.std.specs.declared.option.Option.TheVariants.{Some, None}
use Rattle.java_ast.specs.Path.{and_then, numbered}
use Rattle.java_ast.specs.Tree.{Statement, Statements, Nothing, Then}

-- the statement that was found, or none
abbrev pub alone : Option Statement → Statements
alone None = Nothing
alone (Some s) = Then s Nothing

-- the statements with these numbers one after the other, of a run whose first one has the number first
abbrev pub at_numbers : ℕ → Statements → List ℕ → Statements
at_numbers first run [] = Nothing
at_numbers first run (n ∷ ns) = and_then (alone (numbered (n - first) run)) (at_numbers first run ns)

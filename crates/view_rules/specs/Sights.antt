-- The variables in sight.
use Rattle.std.specs.Prelude.{ℕ, List, [], ◌∷◌, Option, Some, None, if◌then◌else◌}
use Rattle.std.specs.Str.{bytes_eq}
use Rattle.view_rules.specs.declared.sight.Sighted.{Sighted}

-- the first one of a name
abbrev pub in_sight : List Sighted → List ℕ → Option Sighted
in_sight [] name = None
in_sight (v ∷ vs) name = if bytes_eq v.name name then Some v else in_sight vs name

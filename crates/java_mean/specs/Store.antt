-- The variables of a run.
use Rattle.std.specs.Prelude.{ℕ, Bool, false, List, [], ◌∷◌, bytes_eq, if◌then◌else◌}
use Rattle.qbs_base.specs.declared.scalar.Value.{Value}

-- what a variable holds, and whether it is a set, which has no member twice
pub record Variable : Type 0 where
  pub value : Value
  pub is_set : Bool

-- a map from names to variables, each name once
abbrev pub Store : Type 0
Store = List (List ℕ × Variable)

-- the store with this variable at the name
abbrev pub put : Store → List ℕ → Variable → Store
put [] x v = (x, v) ∷ []
put (b ∷ bs) x v = if bytes_eq b.0 x then (b.0, v) ∷ bs else b ∷ put bs x v

-- a variable that is no set
abbrev pub plainly : Value → Variable
plainly v = record { value = v; is_set = false }

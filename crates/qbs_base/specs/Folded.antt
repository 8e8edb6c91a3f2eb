-- A list taken together, from its last element on.
use Rattle.std.specs.Prelude.{Bool, true, false, List, [], ◌∷◌}

abbrev pub is_some : {X : Type 0} → List X → Bool
is_some [] = false
is_some (x ∷ xs) = true

abbrev pub folded : {X A : Type 0} → (X → A → A) → A → List X → A
folded step start [] = start
folded step start (x ∷ xs) = step x (folded step start xs)

-- Uses, one list after the other.
use Rattle.std.proofs.Common.{◌≡◌, ℕ, List, [], ◌∷◌, ◌++◌, refl}
use Rattle.sql_parts.specs.Numbered.{entered, first_uses}

pub uses_append : (seen xs ys : List ℕ) → first_uses seen (xs ++ ys) ≡ first_uses (first_uses seen xs) ys
uses_append seen [] ys = refl
uses_append seen (x ∷ xs) ys = uses_append (entered seen x) xs ys

-- Keys among those of a set.
use Rattle.std.proofs.Common.{◌≡◌, ℕ, ◌||◌, Bool, List, [], ◌∷◌, map, refl, ap}
use Rattle.std.specs.Prelude.{bytes_eq}
use Rattle.std.specs.List.{list_any}
use Rattle.view_map.specs.Keys.{is_key}

pub among : {K : Type 0} (of : K → List ℕ) (x : List ℕ) (ks : List K) → list_any (λ k. bytes_eq x (of k)) ks ≡ is_key (map of ks) x
among of x [] = refl
among of x (k ∷ ks) = ap (λ (b : Bool). bytes_eq x (of k) || b) (among of x ks)

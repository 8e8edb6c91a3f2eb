-- Names that are lent by the tree.
use Rattle.std.proofs.Common.{◌≡◌, ℕ, List, [], ◌∷◌, Bool, ◌||◌, refl, sym, ap, take, map, Bor}
use Rattle.std.specs.List.{take-map, list_any}
use Rattle.std.specs.Str.{bytes_eq}

abbrev pub lent : List (Bor (List ℕ)) → List (List ℕ)
lent names = map (λ n. n.now) names

pub any_lent : (x : List ℕ) (names : List (Bor (List ℕ))) → list_any (λ (n : Bor (List ℕ)). bytes_eq x n.now) names ≡ list_any (bytes_eq x) (lent names)
any_lent x [] = refl
any_lent x (n ∷ names) = ap (λ (b : Bool). bytes_eq x n.now || b) (any_lent x names)

pub take_lent : (len : ℕ) (names : List (Bor (List ℕ))) → lent (take len names) ≡ take len (lent names)
take_lent len names = sym (take-map (λ (n : Bor (List ℕ)). n.now) len names)

-- A sort by what a function gives.
use Rattle.std.proofs.Common.{◌≡◌, Bool, true, false, cond, List, [], ◌∷◌, map, refl, ap, ◌∙◌}
use Rattle.qbs_base.specs.Sort.{put_in, stable_sort}

module _ {X Y : Type 0} where
  map_put_in : (lt : Y → Y → Bool) (f : X → Y) (x : X) (xs : List X) → map f (put_in (λ a b. lt (f a) (f b)) x xs) ≡ put_in lt (f x) (map f xs)
  map_put_in lt f x [] = refl
  map_put_in lt f x (y ∷ ys) = go (lt (f y) (f x)) (map_put_in lt f x ys)
    where
      go : (b : Bool) → map f (put_in (λ a b. lt (f a) (f b)) x ys) ≡ put_in lt (f x) (map f ys) → map f (cond b (y ∷ put_in (λ a b. lt (f a) (f b)) x ys) (x ∷ y ∷ ys)) ≡ cond b (f y ∷ put_in lt (f x) (map f ys)) (f x ∷ f y ∷ map f ys)
      go true e = ap (λ ys. f y ∷ ys) e
      go false e = refl

  pub map_sort : (lt : Y → Y → Bool) (f : X → Y) (xs : List X) → map f (stable_sort (λ a b. lt (f a) (f b)) xs) ≡ stable_sort lt (map f xs)
  map_sort lt f [] = refl
  map_sort lt f (x ∷ xs) = map_put_in lt f x (stable_sort (λ a b. lt (f a) (f b)) xs) ∙ ap (put_in lt (f x)) (map_sort lt f xs)

-- What is proved of sorts and choices.
use Rattle.std.specs.Prelude.{◌≡◌, Bool, true, List, map, ◌∷◌}
use Rattle.std.specs.List.{AllByRecursion}
use Rattle.std.specs.Cmp.{IsStrictWeakOrder}
use Rattle.std.specs.List.Sorted.{IsPermutation, IsSortedBy, IsStableBy, ties}
use Rattle.qbs_base.specs.Sort.{stable_sort, then_by, turned}

-- the stable sort: it is in order, has the elements, keeps those that tie in their order, and no other list does
pub record IsTheStableSort {X : Type 0} (lt : X → X → Bool) (xs : List X) : Type 0 where
  pub sorted : IsSortedBy lt (stable_sort lt xs)
  pub permutation : IsPermutation xs (stable_sort lt xs)
  pub stable : IsStableBy lt xs (stable_sort lt xs)
  pub only : (ys : List X) → IsSortedBy lt ys → IsStableBy lt xs ys → ys ≡ stable_sort lt xs

-- a sort by a function's values is the sort of the values
pub record SortsByValue {X Y : Type 0} (lt : Y → Y → Bool) (f : X → Y) (xs : List X) : Type 0 where
  pub mapped : map f (stable_sort (λ a b. lt (f a) (f b)) xs) ≡ stable_sort lt (map f xs)

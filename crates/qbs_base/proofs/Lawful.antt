-- The laws of sorts and choices.
use Rattle.std.proofs.Common.{◌≡◌, Bool, List, [], ◌∷◌, map}
use Rattle.std.specs.Cmp.{IsStrictWeakOrder}
use Rattle.std.specs.List.Sorted.{IsPermutation}
use Rattle.qbs_base.specs.Laws.{IsTheStableSort, SortsByValue}
use Rattle.qbs_base.specs.Sort.{stable_sort, choices}
use Rattle.qbs_base.proofs.Mapped.{map_sort}
use Rattle.qbs_base.proofs.Moves.{AllMove, moves_sort, moves_choices, permutation_from_moves}
use Rattle.qbs_base.proofs.Order.{sorted_from_rises, rises_stable_sort, stable_sort_moves, stable_sort_same, stable_sort_is}

pub is_the_stable_sort : {X : Type 0} (lt : X → X → Bool) → IsStrictWeakOrder lt → (xs : List X) → IsTheStableSort lt xs
is_the_stable_sort lt o xs =
    record {
      sorted = sorted_from_rises lt o (stable_sort lt xs) (rises_stable_sort lt o xs);
      permutation = stable_sort_moves lt o xs;
      stable = stable_sort_same lt o xs;
      only = stable_sort_is lt o xs;
    }

pub sorts_by_value : {X Y : Type 0} (lt : Y → Y → Bool) (f : X → Y) (xs : List X) → SortsByValue lt f xs
sorts_by_value lt f xs = record { mapped = map_sort lt f xs }

all_sorted : {X : Type 0} (lt : X → X → Bool) (xss : List (List X)) → AllMove xss (map (stable_sort lt) xss)
all_sorted lt [] = tt
all_sorted lt (xs ∷ xss) = (moves_sort lt xs, all_sorted lt xss)

pub choices_of_sorted : {X : Type 0} (lt : X → X → Bool) (xss : List (List X)) → IsPermutation (choices xss) (choices (map (stable_sort lt) xss))
choices_of_sorted lt xss =
    permutation_from_moves (choices xss) (choices (map (stable_sort lt) xss)) (moves_choices xss (map (stable_sort lt) xss) (all_sorted lt xss))

-- Permutations by rules, so that a filter and a product keep them.
use Rattle.std.proofs.Common.{◌≡◌, ℕ, Bool, true, false, cond, List, [], ◌∷◌, ◌++◌, map, length, suc, refl, sym, ap, ◌∙◌, subst, append_assoc}
use Rattle.std.specs.List.{filter, flat_map}
use Rattle.std.specs.List.Sorted.{IsPermutation}
use Rattle.std.proofs.lemmas.List.Sorted.{IsPermutation-refl, IsPermutation-sym, IsPermutation-trans, IsPermutation-cons, IsPermutation-middle}
use Rattle.qbs_base.specs.Sort.{put_in, stable_sort, choices}
use Rattle.qbs_base.specs.Folded.{is_some, folded}

pub data Moves {X : Type 0} : List X → List X → Type 0 where
  still : (xs : List X) → Moves xs xs
  under : (x : X) (xs ys : List X) → Moves xs ys → Moves (x ∷ xs) (x ∷ ys)
  swaps : (x y : X) (xs : List X) → Moves (x ∷ y ∷ xs) (y ∷ x ∷ xs)
  joins : (xs ys zs : List X) → Moves xs ys → Moves ys zs → Moves xs zs

module _ {X : Type 0} where
  pub permutation_from_moves : (xs ys : List X) → Moves xs ys → IsPermutation xs ys
  permutation_from_moves xs ys (still zs) = IsPermutation-refl zs
  permutation_from_moves xs ys (under x us vs m) = IsPermutation-cons x us vs (permutation_from_moves us vs m)
  permutation_from_moves xs ys (swaps x y zs) = IsPermutation-sym (y ∷ x ∷ zs) (x ∷ y ∷ zs) (IsPermutation-middle (y ∷ []) x zs)
  permutation_from_moves xs ys (joins us vs ws m n) = IsPermutation-trans us vs ws (permutation_from_moves us vs m) (permutation_from_moves vs ws n)

  pub moves_filter : (p : X → Bool) (xs ys : List X) → Moves xs ys → Moves (filter p xs) (filter p ys)
  moves_filter p xs ys (still zs) = still (filter p zs)
  moves_filter p xs ys (under x us vs m) = go (p x) (moves_filter p us vs m)
    where
      go : (b : Bool) → Moves (filter p us) (filter p vs) → Moves (cond b (x ∷ filter p us) (filter p us)) (cond b (x ∷ filter p vs) (filter p vs))
      go true n = under x (filter p us) (filter p vs) n
      go false n = n
  moves_filter p xs ys (swaps x y zs) = go (p x) (p y)
    where
      go : (a b : Bool) → Moves (cond a (x ∷ cond b (y ∷ filter p zs) (filter p zs)) (cond b (y ∷ filter p zs) (filter p zs))) (cond b (y ∷ cond a (x ∷ filter p zs) (filter p zs)) (cond a (x ∷ filter p zs) (filter p zs)))
      go true true = swaps x y (filter p zs)
      go true false = still (x ∷ filter p zs)
      go false true = still (y ∷ filter p zs)
      go false false = still (filter p zs)
  moves_filter p xs ys (joins us vs ws m n) = joins (filter p us) (filter p vs) (filter p ws) (moves_filter p us vs m) (moves_filter p vs ws n)

  -- below a list that stays
  pub moves_after : (zs xs ys : List X) → Moves xs ys → Moves (zs ++ xs) (zs ++ ys)
  moves_after [] xs ys m = m
  moves_after (z ∷ zs) xs ys m = under z (zs ++ xs) (zs ++ ys) (moves_after zs xs ys m)

  pub moves_before : (zs xs ys : List X) → Moves xs ys → Moves (xs ++ zs) (ys ++ zs)
  moves_before zs xs ys (still us) = still (us ++ zs)
  moves_before zs xs ys (under x us vs m) = under x (us ++ zs) (vs ++ zs) (moves_before zs us vs m)
  moves_before zs xs ys (swaps x y us) = swaps x y (us ++ zs)
  moves_before zs xs ys (joins us vs ws m n) = joins (us ++ zs) (vs ++ zs) (ws ++ zs) (moves_before zs us vs m) (moves_before zs vs ws n)

  to_front : (xs : List X) (y : X) (zs : List X) → Moves (xs ++ (y ∷ zs)) (y ∷ (xs ++ zs))
  to_front [] y zs = still (y ∷ zs)
  to_front (x ∷ xs) y zs = joins (x ∷ (xs ++ (y ∷ zs))) (x ∷ y ∷ (xs ++ zs)) (y ∷ x ∷ (xs ++ zs)) (under x (xs ++ (y ∷ zs)) (y ∷ (xs ++ zs)) (to_front xs y zs)) (swaps x y (xs ++ zs))

  past : (xs ys zs : List X) → Moves (xs ++ (ys ++ zs)) (ys ++ (xs ++ zs))
  past xs [] zs = still (xs ++ zs)
  past xs (y ∷ ys) zs = joins (xs ++ (y ∷ (ys ++ zs))) (y ∷ (xs ++ (ys ++ zs))) (y ∷ (ys ++ (xs ++ zs))) (to_front xs y (ys ++ zs)) (under y (xs ++ (ys ++ zs)) (ys ++ (xs ++ zs)) (past xs ys zs))

  pub moves_put_in : (lt : X → X → Bool) (x : X) (ys : List X) → Moves (x ∷ ys) (put_in lt x ys)
  moves_put_in lt x [] = still (x ∷ [])
  moves_put_in lt x (y ∷ ys) = go (lt y x) (moves_put_in lt x ys)
    where
      go : (b : Bool) → Moves (x ∷ ys) (put_in lt x ys) → Moves (x ∷ y ∷ ys) (cond b (y ∷ put_in lt x ys) (x ∷ y ∷ ys))
      go true m = joins (x ∷ y ∷ ys) (y ∷ x ∷ ys) (y ∷ put_in lt x ys) (swaps x y ys) (under y (x ∷ ys) (put_in lt x ys) m)
      go false m = still (x ∷ y ∷ ys)

  pub moves_sort : (lt : X → X → Bool) (xs : List X) → Moves xs (stable_sort lt xs)
  moves_sort lt [] = still []
  moves_sort lt (x ∷ xs) = joins (x ∷ xs) (x ∷ stable_sort lt xs) (put_in lt x (stable_sort lt xs)) (under x xs (stable_sort lt xs) (moves_sort lt xs)) (moves_put_in lt x (stable_sort lt xs))

  -- folds that do not see an order
  pub moves_length : (xs ys : List X) → Moves xs ys → length xs ≡ length ys
  moves_length xs ys (still zs) = refl
  moves_length xs ys (under x us vs m) = ap suc (moves_length us vs m)
  moves_length xs ys (swaps x y zs) = refl
  moves_length xs ys (joins us vs ws m n) = moves_length us vs m ∙ moves_length vs ws n

  pub moves_some : (xs ys : List X) → Moves xs ys → is_some xs ≡ is_some ys
  moves_some xs ys (still zs) = refl
  moves_some xs ys (under x us vs m) = refl
  moves_some xs ys (swaps x y zs) = refl
  moves_some xs ys (joins us vs ws m n) = moves_some us vs m ∙ moves_some vs ws n

  -- any fold by a step that may be taken in either order
  pub moves_fold : {A : Type 0} (step : X → A → A) (zero' : A) → ((x y : X) (a : A) → step x (step y a) ≡ step y (step x a)) → (xs ys : List X) → Moves xs ys → folded step zero' xs ≡ folded step zero' ys
  moves_fold step a h xs ys (still zs) = refl
  moves_fold step a h xs ys (under x us vs m) = ap (step x) (moves_fold step a h us vs m)
  moves_fold step a h xs ys (swaps x y zs) = h x y (folded step a zs)
  moves_fold step a h xs ys (joins us vs ws m n) = moves_fold step a h us vs m ∙ moves_fold step a h vs ws n

module _ {X Y : Type 0} where
  pub moves_map : (f : X → Y) (xs ys : List X) → Moves xs ys → Moves (map f xs) (map f ys)
  moves_map f xs ys (still zs) = still (map f zs)
  moves_map f xs ys (under x us vs m) = under (f x) (map f us) (map f vs) (moves_map f us vs m)
  moves_map f xs ys (swaps x y zs) = swaps (f x) (f y) (map f zs)
  moves_map f xs ys (joins us vs ws m n) = joins (map f us) (map f vs) (map f ws) (moves_map f us vs m) (moves_map f vs ws n)

  pub moves_flat_map : (f : X → List Y) (xs ys : List X) → Moves xs ys → Moves (flat_map f xs) (flat_map f ys)
  moves_flat_map f xs ys (still zs) = still (flat_map f zs)
  moves_flat_map f xs ys (under x us vs m) = moves_after (f x) (flat_map f us) (flat_map f vs) (moves_flat_map f us vs m)
  moves_flat_map f xs ys (swaps x y zs) = past (f x) (f y) (flat_map f zs)
  moves_flat_map f xs ys (joins us vs ws m n) = joins (flat_map f us) (flat_map f vs) (flat_map f ws) (moves_flat_map f us vs m) (moves_flat_map f vs ws n)

  pub moves_each : (f g : X → List Y) → ((x : X) → Moves (f x) (g x)) → (xs : List X) → Moves (flat_map f xs) (flat_map g xs)
  moves_each f g h [] = still []
  moves_each f g h (x ∷ xs) = joins (f x ++ flat_map f xs) (g x ++ flat_map f xs) (g x ++ flat_map g xs) (moves_before (flat_map f xs) (f x) (g x) (h x)) (moves_after (g x) (flat_map f xs) (flat_map g xs) (moves_each f g h xs))

-- each list of a product may be moved
abbrev pub AllMove : {X : Type 0} → List (List X) → List (List X) → Type 0
AllMove [] [] = Unit {0}
AllMove [] (ys ∷ yss) = ⊥
AllMove (xs ∷ xss) [] = ⊥
AllMove (xs ∷ xss) (ys ∷ yss) = Moves xs ys × AllMove xss yss

pub moves_choices : {X : Type 0} (xss yss : List (List X)) → AllMove xss yss → Moves (choices xss) (choices yss)
moves_choices [] [] m = still ([] ∷ [])
moves_choices [] (ys ∷ yss) m = absurd m
moves_choices (xs ∷ xss) [] m = absurd m
moves_choices (xs ∷ xss) (ys ∷ yss) m =
    joins (flat_map (λ x. map (λ c. x ∷ c) (choices xss)) xs) (flat_map (λ x. map (λ c. x ∷ c) (choices xss)) ys) (flat_map (λ x. map (λ c. x ∷ c) (choices yss)) ys)
    (moves_flat_map (λ x. map (λ c. x ∷ c) (choices xss)) xs ys m.0)
    (moves_each (λ x. map (λ c. x ∷ c) (choices xss)) (λ x. map (λ c. x ∷ c) (choices yss)) (λ x. moves_map (λ c. x ∷ c) (choices xss) (choices yss) (moves_choices xss yss m.1)) ys)

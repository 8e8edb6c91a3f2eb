-- A stable sort by a test, tests one after the other, and choices from lists in order.
use Rattle.std.specs.Prelude.{◌≡◌, Bool, true, false, cond, not, ◌&&◌, ◌||◌, List, [], ◌∷◌, map}
use Rattle.std.specs.List.{AllByRecursion, flat_map}

-- x stands before those that are not less than it
abbrev pub put_in : {X : Type 0} → (X → X → Bool) → X → List X → List X
put_in lt x [] = x ∷ []
put_in lt x (y ∷ ys) = cond (lt y x) (y ∷ put_in lt x ys) (x ∷ y ∷ ys)

-- in order of the test; those of which neither is less keep their order
abbrev pub stable_sort : {X : Type 0} → (X → X → Bool) → List X → List X
stable_sort lt [] = []
stable_sort lt (x ∷ xs) = put_in lt x (stable_sort lt xs)

-- no element is less than one before it
abbrev pub Rises : {X : Type 0} → (X → X → Bool) → List X → Type 0
Rises lt [] = Unit {0}
Rises lt (x ∷ xs) = AllByRecursion (λ y. lt y x ≡ false) xs × Rises lt xs

-- by a first test, and where it ties by a second
abbrev pub then_by : {X : Type 0} → (X → X → Bool) → (X → X → Bool) → X → X → Bool
then_by a b x y = a x y || (not (a y x) && b x y)

-- the test turned round, where it is down
abbrev pub turned : {X : Type 0} → Bool → (X → X → Bool) → X → X → Bool
turned down lt x y = cond down (lt y x) (lt x y)

-- all choices of one from each list, the first list's varying slowest
abbrev pub choices : {X : Type 0} → List (List X) → List (List X)
choices [] = [] ∷ []
choices (xs ∷ xss) = flat_map (λ x. map (λ c. x ∷ c) (choices xss)) xs

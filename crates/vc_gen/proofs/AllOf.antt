-- What holds of all elements of a list.
use Rattle.std.proofs.Common.{◌≡◌, ℕ, zero, suc, Bool, true, false, cond, ◌&&◌, List, [], ◌∷◌, ◌++◌, map, take, slice_get, refl, ap₂}
use Rattle.std.specs.List.{filter, flat_map, list_all, AllByRecursion}
use Rattle.std.specs.declared.option.Option.TheVariants.{Some}
use Rattle.tor_axioms.proofs.Decided.{and_left, and_right}

module _ {X : Type 0} where
  pub all_append : (P : X → Type 0) (xs ys : List X) → AllByRecursion P xs → AllByRecursion P ys → AllByRecursion P (xs ++ ys)
  all_append P [] ys h g = g
  all_append P (x ∷ xs) ys h g = (h.0, all_append P xs ys h.1 g)

  pub all_left : (P : X → Type 0) (xs ys : List X) → AllByRecursion P (xs ++ ys) → AllByRecursion P xs
  all_left P [] ys h = tt
  all_left P (x ∷ xs) ys h = (h.0, all_left P xs ys h.1)

  pub all_right : (P : X → Type 0) (xs ys : List X) → AllByRecursion P (xs ++ ys) → AllByRecursion P ys
  all_right P [] ys h = h
  all_right P (x ∷ xs) ys h = all_right P xs ys h.1

  pub all_from : (P Q : X → Type 0) → ((x : X) → P x → Q x) → (xs : List X) → AllByRecursion P xs → AllByRecursion Q xs
  all_from P Q f [] h = tt
  all_from P Q f (x ∷ xs) h = (f x h.0, all_from P Q f xs h.1)

  pub all_take : (P : X → Type 0) (n : ℕ) (xs : List X) → AllByRecursion P xs → AllByRecursion P (take n xs)
  all_take P zero xs h = tt
  all_take P (suc n) [] h = tt
  all_take P (suc n) (x ∷ xs) h = (h.0, all_take P n xs h.1)

  pub all_filter : (P : X → Type 0) (test : X → Bool) (xs : List X) → AllByRecursion P xs → AllByRecursion P (filter test xs)
  all_filter P test [] h = tt
  all_filter P test (x ∷ xs) h = go (test x) (all_filter P test xs h.1)
    where
      go : (b : Bool) → AllByRecursion P (filter test xs) → AllByRecursion P (cond b (x ∷ filter test xs) (filter test xs))
      go true g = (h.0, g)
      go false g = g

  -- each stands at its place
  pub all_places : (xs : List X) → AllByRecursion (λ x. (k : ℕ) × (slice_get xs k ≡ Some x)) xs
  all_places [] = tt
  all_places (x ∷ xs) = ((0, refl), all_from (λ y. (k : ℕ) × (slice_get xs k ≡ Some y)) (λ y. (k : ℕ) × (slice_get (x ∷ xs) k ≡ Some y)) (λ y p. (suc p.0, p.1)) xs (all_places xs))

  pub all_test : (P : X → Type 0) (test : X → Bool) → ((x : X) → P x → test x ≡ true) → (xs : List X) → AllByRecursion P xs → list_all test xs ≡ true
  all_test P test f [] h = refl
  all_test P test f (x ∷ xs) h = ap₂ (λ a b. a && b) (f x h.0) (all_test P test f xs h.1)

-- tests that pass
pub tests_all : {X : Type 0} (test : X → Bool) (xs : List X) → list_all test xs ≡ true → AllByRecursion (λ x. test x ≡ true) xs
tests_all test [] h = tt
tests_all test (x ∷ xs) h = (and_left (test x) (list_all test xs) h, tests_all test xs (and_right (test x) (list_all test xs) h))

pub all_map : {X Y : Type 0} (P : X → Type 0) (Q : Y → Type 0) (g : X → Y) → ((x : X) → P x → Q (g x)) → (xs : List X) → AllByRecursion P xs → AllByRecursion Q (map g xs)
all_map P Q g f [] h = tt
all_map P Q g f (x ∷ xs) h = (f x h.0, all_map P Q g f xs h.1)

pub all_flat : {X Y : Type 0} (P : Y → Type 0) (g : X → List Y) (xs : List X) → AllByRecursion P (flat_map g xs) → AllByRecursion (λ x. AllByRecursion P (g x)) xs
all_flat P g [] h = tt
all_flat P g (x ∷ xs) h = (all_left P (g x) (flat_map g xs) h, all_flat P g xs (all_right P (g x) (flat_map g xs) h))

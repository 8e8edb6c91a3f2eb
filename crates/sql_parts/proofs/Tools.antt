-- Tests and lists, one after another.
use Rattle.std.proofs.Common.{◌≡◌, ℕ, zero, suc, ◌+◌, ◌<◌, ◌≤◌, Bool, true, false, cond, not, ◌&&◌, ◌||◌, List, [], ◌∷◌, ◌++◌, map, take, length, slice_get, refl, ap, ap₂, ◌∙◌, arith, nat_eq, nat_lt}
use Rattle.std.specs.List.{AllByRecursion, filter, flat_map, list_any, enumerate_from}
use Rattle.std.specs.declared.option.Option.TheVariants.{Some, None}
use Rattle.std.proofs.lemmas.List.{map-append}
use Rattle.std.proofs.lemmas.Bool.Decides.{nat_tests}
use Rattle.qbs_base.specs.Folded.{is_some}
use Rattle.tor_terms.specs.Truth.{same_bool}
use Rattle.kernel_lang.proofs.Listing.{some_eq}

-- ---- tests

pub or_right : (a b : Bool) → b ≡ true → (a || b) ≡ true
or_right true b h = refl
or_right false b h = h

pub or_left : (a b : Bool) → a ≡ true → (a || b) ≡ true
or_left true b h = refl
or_left false b h = absurd cc

pub and_assoc : (x y z : Bool) → ((x && y) && z) ≡ (x && (y && z))
and_assoc true y z = refl
and_assoc false y z = refl

pub and_true : (x : Bool) → (x && true) ≡ x
and_true true = refl
and_true false = refl

pub same_true : (b : Bool) → same_bool b true ≡ b
same_true true = refl
same_true false = refl

pub same_false : (b : Bool) → same_bool b false ≡ not b
same_false true = refl
same_false false = refl

pub not_not : (b : Bool) → not (not b) ≡ b
not_not true = refl
not_not false = refl

pub eq_true : (m n : ℕ) → nat_eq m n ≡ true → m ≡ n
eq_true m n h = grind (arith, nat_tests)

pub eq_itself : (n : ℕ) → nat_eq n n ≡ true
eq_itself n = grind (arith, nat_tests)

pub lt_true : (m n : ℕ) → m < n → nat_lt m n ≡ true
lt_true m n h = grind (arith, nat_tests)

pub lt_false : (m n : ℕ) → n ≤ m → nat_lt m n ≡ false
lt_false m n h = grind (arith, nat_tests)

pub lt_of : (m n : ℕ) → nat_lt m n ≡ true → m < n
lt_of m n h = grind (arith, nat_tests)

-- ---- options

pub get_map : {X Y : Type 0} (f : X → Y) (xs : List X) (k : ℕ) (x : X) → slice_get xs k ≡ Some x → slice_get (map f xs) k ≡ Some (f x)
get_map f [] k x e = absurd cc
get_map f (y ∷ ys) zero x e = ap Some (ap f (some_eq y x e))
get_map f (y ∷ ys) (suc k) x e = get_map f ys k x e

pub get_none : {X Y : Type 0} (f : X → Y) (xs : List X) (k : ℕ) → slice_get xs k ≡ None → slice_get (map f xs) k ≡ None
get_none f [] k e = refl
get_none f (y ∷ ys) zero e = absurd cc
get_none f (y ∷ ys) (suc k) e = get_none f ys k e

-- ---- lists

module _ {X Y Z : Type 0} where
  pub map_map : (f : Y → Z) (g : X → Y) (xs : List X) → map f (map g xs) ≡ map (λ x. f (g x)) xs
  map_map f g [] = refl
  map_map f g (x ∷ xs) = ap (λ ys. f (g x) ∷ ys) (map_map f g xs)

  pub map_flat_map : (f : Y → Z) (g : X → List Y) (xs : List X) → map f (flat_map g xs) ≡ flat_map (λ x. map f (g x)) xs
  map_flat_map f g [] = refl
  map_flat_map f g (x ∷ xs) = map-append f (g x) (flat_map g xs) ∙ ap (λ ys. map f (g x) ++ ys) (map_flat_map f g xs)

  pub flat_map_map : (f : Y → List Z) (g : X → Y) (xs : List X) → flat_map f (map g xs) ≡ flat_map (λ x. f (g x)) xs
  flat_map_map f g [] = refl
  flat_map_map f g (x ∷ xs) = ap (λ ys. f (g x) ++ ys) (flat_map_map f g xs)

module _ {X Y : Type 0} where
  pub map_agree : (f g : X → Y) → ((x : X) → f x ≡ g x) → (xs : List X) → map f xs ≡ map g xs
  map_agree f g h [] = refl
  map_agree f g h (x ∷ xs) = ap₂ (λ y ys. y ∷ ys) (h x) (map_agree f g h xs)

  pub flat_map_agree : (f g : X → List Y) → ((x : X) → f x ≡ g x) → (xs : List X) → flat_map f xs ≡ flat_map g xs
  flat_map_agree f g h [] = refl
  flat_map_agree f g h (x ∷ xs) = ap₂ (λ (ys zs : List Y). ys ++ zs) (h x) (flat_map_agree f g h xs)

  pub filter_of_map : (p : Y → Bool) (f : X → Y) (xs : List X) → filter p (map f xs) ≡ map f (filter (λ x. p (f x)) xs)
  filter_of_map p f [] = refl
  filter_of_map p f (x ∷ xs) = go (p (f x)) (filter_of_map p f xs)
    where
      go : (b : Bool) → filter p (map f xs) ≡ map f (filter (λ x. p (f x)) xs) → cond b (f x ∷ filter p (map f xs)) (filter p (map f xs)) ≡ map f (cond b (x ∷ filter (λ x. p (f x)) xs) (filter (λ x. p (f x)) xs))
      go true e = ap (λ ys. f x ∷ ys) e
      go false e = e

  pub any_map : (p : Y → Bool) (f : X → Y) (xs : List X) → list_any p (map f xs) ≡ list_any (λ x. p (f x)) xs
  any_map p f [] = refl
  any_map p f (x ∷ xs) = ap (λ b. p (f x) || b) (any_map p f xs)

  pub length_map : (f : X → Y) (xs : List X) → length (map f xs) ≡ length xs
  length_map f [] = refl
  length_map f (x ∷ xs) = ap suc (length_map f xs)

  pub some_map : (f : X → Y) (xs : List X) → is_some (map f xs) ≡ is_some xs
  some_map f [] = refl
  some_map f (x ∷ xs) = refl

  pub take_map : (f : X → Y) (n : ℕ) (xs : List X) → map f (take n xs) ≡ take n (map f xs)
  take_map f zero xs = refl
  take_map f (suc n) [] = refl
  take_map f (suc n) (x ∷ xs) = ap (λ ys. f x ∷ ys) (take_map f n xs)

  pub all_map : (P : X → Type 0) (Q : Y → Type 0) (f : X → Y) → ((x : X) → P x → Q (f x)) → (xs : List X) → AllByRecursion P xs → AllByRecursion Q (map f xs)
  all_map P Q f h [] a = tt
  all_map P Q f h (x ∷ xs) a = (h x a.0, all_map P Q f h xs a.1)

pub any_agree : {X : Type 0} (p q : X → Bool) → ((x : X) → p x ≡ q x) → (xs : List X) → list_any p xs ≡ list_any q xs
any_agree p q h [] = refl
any_agree p q h (x ∷ xs) = ap₂ (λ b c. b || c) (h x) (any_agree p q h xs)

-- where something holds of all elements
module _ {X : Type 0} (P : X → Type 0) where
  pub filter_agree_on : (p q : X → Bool) → ((x : X) → P x → p x ≡ q x) → (xs : List X) → AllByRecursion P xs → filter p xs ≡ filter q xs
  filter_agree_on p q h [] a = refl
  filter_agree_on p q h (x ∷ xs) a = ap₂ (λ b ys. cond b (x ∷ ys) ys) (h x a.0) (filter_agree_on p q h xs a.1)

  pub any_agree_on : (p q : X → Bool) → ((x : X) → P x → p x ≡ q x) → (xs : List X) → AllByRecursion P xs → list_any p xs ≡ list_any q xs
  any_agree_on p q h [] a = refl
  any_agree_on p q h (x ∷ xs) a = ap₂ (λ b c. b || c) (h x a.0) (any_agree_on p q h xs a.1)

  pub map_agree_on : {Y : Type 0} (f g : X → Y) → ((x : X) → P x → f x ≡ g x) → (xs : List X) → AllByRecursion P xs → map f xs ≡ map g xs
  map_agree_on f g h [] a = refl
  map_agree_on f g h (x ∷ xs) a = ap₂ (λ y ys. y ∷ ys) (h x a.0) (map_agree_on f g h xs a.1)

  pub all_take : (n : ℕ) (xs : List X) → AllByRecursion P xs → AllByRecursion P (take n xs)
  all_take zero xs a = tt
  all_take (suc n) [] a = tt
  all_take (suc n) (x ∷ xs) a = (a.0, all_take n xs a.1)

pub without_places : {X : Type 0} (n : ℕ) (xs : List X) → map (λ (b : ℕ × X). b.1) (enumerate_from n xs) ≡ xs
without_places n [] = refl
without_places n (x ∷ xs) = ap (λ ys. x ∷ ys) (without_places (n + 1) xs)

pub any_is_some : {X : Type 0} (p : X → Bool) (xs : List X) → list_any p xs ≡ is_some (filter p xs)
any_is_some p [] = refl
any_is_some p (x ∷ xs) = go (p x) (any_is_some p xs)
  where
    go : (b : Bool) → list_any p xs ≡ is_some (filter p xs) → (b || list_any p xs) ≡ is_some (cond b (x ∷ filter p xs) (filter p xs))
    go true e = refl
    go false e = e

pub any_filter : {X Y : Type 0} (p : X → Bool) (q : Y → Bool) (f : X → Y) (xs : List X) → list_any (λ x. p x && q (f x)) xs ≡ list_any q (map f (filter p xs))
any_filter p q f [] = refl
any_filter p q f (x ∷ xs) = go (p x) (any_filter p q f xs)
  where
    go : (b : Bool) → list_any (λ x. p x && q (f x)) xs ≡ list_any q (map f (filter p xs)) → ((b && q (f x)) || list_any (λ x. p x && q (f x)) xs) ≡ list_any q (map f (cond b (x ∷ filter p xs) (filter p xs)))
    go true e = ap (λ t. q (f x) || t) e
    go false e = e

pub all_pass : {X : Type 0} (xs : List X) → filter (λ x. true) xs ≡ xs
all_pass [] = refl
all_pass (x ∷ xs) = ap (λ ys. x ∷ ys) (all_pass xs)

pub filter_both : {X : Type 0} (p q : X → Bool) (xs : List X) → filter (λ x. p x && q x) xs ≡ filter q (filter p xs)
filter_both p q [] = refl
filter_both p q (x ∷ xs) = go (p x) (filter_both p q xs)
  where
    go : (b : Bool) → filter (λ x. p x && q x) xs ≡ filter q (filter p xs) → cond (b && q x) (x ∷ filter (λ x. p x && q x) xs) (filter (λ x. p x && q x) xs) ≡ filter q (cond b (x ∷ filter p xs) (filter p xs))
    go true e = ap (λ ys. cond (q x) (x ∷ ys) ys) e
    go false e = e

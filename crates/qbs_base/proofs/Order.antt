-- Sorted lists: two with the same ties are one list, and what the stable sort gives.
use Rattle.std.proofs.Common.{◌≡◌, ℕ, zero, suc, ◌+◌, Bool, true, false, cond, not, ◌&&◌, ◌||◌, List, [], ◌∷◌, ◌++◌, length, get_or, refl, sym, ap, ◌∙◌, subst, arith, rules, add-one}
use Rattle.std.specs.Prelude.{◌<◌, ◌≤◌}
use Rattle.std.specs.Cmp.{IsStrictWeakOrder}
use Rattle.std.specs.List.{AllByRecursion, filter, All, sum_by}
use Rattle.std.specs.List.Sorted.{IsPermutation, IsSortedBy, ties, IsStableBy}
use Rattle.std.proofs.lemmas.List.Sorted.{sorted_far, IsPermutation-refl, IsPermutation-sym, IsPermutation-trans, IsPermutation-cons, IsPermutation-middle, All-permutation, sum_by-IsPermutation}
use Rattle.std.proofs.lemmas.List.Elements.{All-from_recursion, recursion_from_All}
use Rattle.std.proofs.lemmas.List.Sums.{sum_by-cons}
use Rattle.qbs_base.specs.Sort.{put_in, stable_sort, Rises}

-- what is true of all of xs is true of what a filter keeps
pub all_kept : {X : Type 0} (P Q : X → Type 0) (p : X → Bool) → ((x : X) → P x → p x ≡ true → Q x) → (xs : List X) → AllByRecursion P xs → AllByRecursion Q (filter p xs)
all_kept P Q p h [] a = tt
all_kept P Q p h (x ∷ xs) a = go (p x) refl (all_kept P Q p h xs a.1)
  where
    go : (b : Bool) → p x ≡ b → AllByRecursion Q (filter p xs) → AllByRecursion Q (cond b (x ∷ filter p xs) (filter p xs))
    go true e rest = (h x a.0 e, rest)
    go false e rest = rest

pub all_more : {X : Type 0} (P Q : X → Type 0) → ((x : X) → P x → Q x) → (xs : List X) → AllByRecursion P xs → AllByRecursion Q xs
all_more P Q h [] a = tt
all_more P Q h (x ∷ xs) a = (h x a.0, all_more P Q h xs a.1)

-- the first that a filter keeps is one of the list
first_kept : {X : Type 0} (Q : X → Type 0) (p : X → Bool) (y : X) (rest : List X) (xs : List X) → AllByRecursion Q xs → filter p xs ≡ y ∷ rest → Q y
first_kept Q p y rest [] a e = absurd cc
first_kept Q p y rest (x ∷ xs) a e = go (p x) e (λ f. first_kept Q p y rest xs a.1 f)
  where
    go : (b : Bool) → cond b (x ∷ filter p xs) (filter p xs) ≡ y ∷ rest → (filter p xs ≡ y ∷ rest → Q y) → Q y
    go true e later = let f : x ≡ y = cc in subst Q f a.0
    go false e later = later e

false_of : (b : Bool) → (b ≡ true → b ≡ false) → b ≡ false
false_of true h = h refl
false_of false h = refl

module _ {X : Type 0} (lt : X → X → Bool) (o : IsStrictWeakOrder lt) where
  pub not_below_itself : (x : X) → lt x x ≡ false
  not_below_itself x = false_of (lt x x) (o.one_way x x)

  pub ties_itself : (x : X) → ties lt x x ≡ true
  ties_itself x = rw not_below_itself refl

  pub ties_from : (x y : X) → lt x y ≡ false → lt y x ≡ false → ties lt x y ≡ true
  ties_from x y e f = rw (e, f) refl

  pub ties_up : (x y : X) → ties lt x y ≡ true → lt x y ≡ false
  ties_up x y = go (lt x y) (lt y x)
    where
      go : (a b : Bool) → (not a && not b) ≡ true → a ≡ false
      go false b h = refl
      go true b h = cc

  pub ties_down : (x y : X) → ties lt x y ≡ true → lt y x ≡ false
  ties_down x y = go (lt x y) (lt y x)
    where
      go : (a b : Bool) → (not a && not b) ≡ true → b ≡ false
      go a false h = refl
      go false true h = cc
      go true true h = cc

  -- y is one of z and those after it
  head_low : (y : X) (rest : List X) (z : X) (zs : List X) → Rises lt (z ∷ zs) → filter (ties lt y) (z ∷ zs) ≡ y ∷ rest → lt y z ≡ false
  head_low y rest z zs r e = first_kept (λ w. lt w z ≡ false) (ties lt y) y rest (z ∷ zs) (not_below_itself z, r.0) e

  filter_itself : (y : X) (ys : List X) → filter (ties lt y) (y ∷ ys) ≡ y ∷ filter (ties lt y) ys
  filter_itself y ys = rw ties_itself refl

  tails : (b : Bool) (y : X) (us vs : List X) → cond b (y ∷ us) us ≡ cond b (y ∷ vs) vs → us ≡ vs
  tails true y us vs e = cc
  tails false y us vs e = e

  -- lists in order in which each class of ties stands alike are one list
  pub one_list : (P : X → Type 0) (ys zs : List X) → AllByRecursion P ys → AllByRecursion P zs → Rises lt ys → Rises lt zs → ((x : X) → P x → filter (ties lt x) ys ≡ filter (ties lt x) zs) → ys ≡ zs
  one_list P [] [] a b r s h = refl
  one_list P [] (z ∷ zs) a b r s h = let e : [] ≡ z ∷ filter (ties lt z) zs = h z b.0 ∙ filter_itself z zs in cc
  one_list P (y ∷ ys) [] a b r s h = let e : y ∷ filter (ties lt y) ys ≡ [] = sym (filter_itself y ys) ∙ h y a.0 in cc
  one_list P (y ∷ ys) (z ∷ zs) a b r s h = go same (one_list P ys zs a.1 b.1 r.1 s.1)
    where
      at_y : y ∷ filter (ties lt y) ys ≡ filter (ties lt y) (z ∷ zs)
      at_y = sym (filter_itself y ys) ∙ h y a.0

      at_z : filter (ties lt z) (y ∷ ys) ≡ z ∷ filter (ties lt z) zs
      at_z = h z b.0 ∙ filter_itself z zs

      tied : ties lt y z ≡ true
      tied = ties_from y z (head_low y (filter (ties lt y) ys) z zs s (sym at_y)) (head_low z (filter (ties lt z) zs) y ys r at_z)

      kept : (c : Bool) → c ≡ true → y ∷ filter (ties lt y) ys ≡ cond c (z ∷ filter (ties lt y) zs) (filter (ties lt y) zs) → y ≡ z
      kept true t e = cc
      kept false t e = cc

      same : y ≡ z
      same = kept (ties lt y z) tied at_y

      go : y ≡ z → (((x : X) → P x → filter (ties lt x) ys ≡ filter (ties lt x) zs) → ys ≡ zs) → y ∷ ys ≡ z ∷ zs
      go e later = ap (λ w. w ∷ ys) e ∙ ap (λ ws. z ∷ ws) (later (λ x p. tails (ties lt x z) z (filter (ties lt x) ys) (filter (ties lt x) zs) (subst (λ (w : X). filter (ties lt x) (w ∷ ys) ≡ filter (ties lt x) (z ∷ zs)) e (h x p))))

  -- what std says of a sort, by recursion, and back
  all_above : (x : X) (ys : List X) → ((j : ℕ) (d : X) → j < length ys → lt (get_or ys j d) x ≡ false) → AllByRecursion (λ y. lt y x ≡ false) ys
  all_above x [] h = tt
  all_above x (y ∷ ys) h = (h 0 y (omega arith), all_above x ys (λ j d l. h (suc j) d (omega arith)))

  pub rises_from_sorted : (xs : List X) → IsSortedBy lt xs → Rises lt xs
  rises_from_sorted [] s = tt
  rises_from_sorted (x ∷ xs) s = (all_above x xs (λ j d l. sorted_far lt o (x ∷ xs) s 0 (suc j) d (omega arith) (omega arith)), rises_from_sorted xs (λ k d a b. let e : suc k + 1 ≡ suc (k + 1) = omega arith in subst (λ n. lt (get_or (x ∷ xs) n d) (get_or xs k d) ≡ false) e (s (suc k) d (omega arith) (omega arith))))

  -- neighbours
  pub sorted_from_rises : (xs : List X) → Rises lt xs → IsSortedBy lt xs
  sorted_from_rises xs r k d a b = subst (λ n. lt (get_or xs n d) (get_or xs k d) ≡ false) (sym (add-one k)) (next xs r k (omega (arith, b)))
    where
      next : (ys : List X) → Rises lt ys → (k : ℕ) → suc k < length ys → lt (get_or ys (suc k) d) (get_or ys k d) ≡ false
      next [] q k l = absurd (omega arith)
      next (y ∷ []) q k l = absurd (omega arith)
      next (y ∷ z ∷ zs) q zero l = q.0.0
      next (y ∷ z ∷ zs) q (suc k) l = next (z ∷ zs) q.1 k (omega arith)

  -- a filter of a list in order
  pub rises_filter : (p : X → Bool) (xs : List X) → Rises lt xs → Rises lt (filter p xs)
  rises_filter p [] r = tt
  rises_filter p (x ∷ xs) r = go (p x) (rises_filter p xs r.1)
    where
      go : (b : Bool) → Rises lt (filter p xs) → Rises lt (cond b (x ∷ filter p xs) (filter p xs))
      go true rest = (all_kept (λ y. lt y x ≡ false) (λ y. lt y x ≡ false) p (λ y h e. h) xs r.0, rest)
      go false rest = rest

  pub all_put_in : (P : X → Type 0) (x : X) (ys : List X) → P x → AllByRecursion P ys → AllByRecursion P (put_in lt x ys)
  all_put_in P x [] h a = (h, tt)
  all_put_in P x (y ∷ ys) h a = go (lt y x) (all_put_in P x ys h a.1)
    where
      go : (b : Bool) → AllByRecursion P (put_in lt x ys) → AllByRecursion P (cond b (y ∷ put_in lt x ys) (x ∷ y ∷ ys))
      go true rest = (a.0, rest)
      go false rest = (h, a)

  rises_put_in : (x : X) (ys : List X) → Rises lt ys → Rises lt (put_in lt x ys)
  rises_put_in x [] r = (tt, tt)
  rises_put_in x (y ∷ ys) r = go (lt y x) refl (rises_put_in x ys r.1)
    where
      go : (b : Bool) → lt y x ≡ b → Rises lt (put_in lt x ys) → Rises lt (cond b (y ∷ put_in lt x ys) (x ∷ y ∷ ys))
      go true e rest = (all_put_in (λ w. lt w y ≡ false) x ys (o.one_way y x e) r.0, rest)
      go false e rest = ((e, all_more (λ w. lt w y ≡ false) (λ w. lt w x ≡ false) (λ w h. o.chain w y x h e) ys r.0), r)

  pub rises_stable_sort : (xs : List X) → Rises lt (stable_sort lt xs)
  rises_stable_sort [] = tt
  rises_stable_sort (x ∷ xs) = rises_put_in x (stable_sort lt xs) (rises_stable_sort xs)

  -- x and y do not both tie with w where y is below x
  put_in_same : (w x : X) (ys : List X) → filter (ties lt w) (put_in lt x ys) ≡ filter (ties lt w) (x ∷ ys)
  put_in_same w x [] = refl
  put_in_same w x (y ∷ ys) = go (lt y x) refl (put_in_same w x ys)
    where
      apart : lt y x ≡ true → (a b : Bool) → ties lt w x ≡ a → ties lt w y ≡ b → cond b (y ∷ cond a (x ∷ filter (ties lt w) ys) (filter (ties lt w) ys)) (cond a (x ∷ filter (ties lt w) ys) (filter (ties lt w) ys)) ≡ cond a (x ∷ cond b (y ∷ filter (ties lt w) ys) (filter (ties lt w) ys)) (cond b (y ∷ filter (ties lt w) ys) (filter (ties lt w) ys))
      apart e true true f g = let h : lt y x ≡ false = o.chain y w x (ties_down w y g) (ties_up w x f) in cc
      apart e true false f g = refl
      apart e false true f g = refl
      apart e false false f g = refl

      go : (b : Bool) → lt y x ≡ b → filter (ties lt w) (put_in lt x ys) ≡ filter (ties lt w) (x ∷ ys) → filter (ties lt w) (cond b (y ∷ put_in lt x ys) (x ∷ y ∷ ys)) ≡ filter (ties lt w) (x ∷ y ∷ ys)
      go true e rest = ap (λ r. cond (ties lt w y) (y ∷ r) r) rest ∙ apart e (ties lt w x) (ties lt w y) refl refl
      go false e rest = refl

  pub stable_sort_same : (xs : List X) → IsStableBy lt xs (stable_sort lt xs)
  stable_sort_same [] w = refl
  stable_sort_same (x ∷ xs) w = put_in_same w x (stable_sort lt xs) ∙ ap (λ r. cond (ties lt w x) (x ∷ r) r) (stable_sort_same xs w)

  put_in_moves : (x : X) (ys : List X) → IsPermutation (x ∷ ys) (put_in lt x ys)
  put_in_moves x [] = IsPermutation-refl (x ∷ [])
  put_in_moves x (y ∷ ys) = go (lt y x) (put_in_moves x ys)
    where
      go : (b : Bool) → IsPermutation (x ∷ ys) (put_in lt x ys) → IsPermutation (x ∷ y ∷ ys) (cond b (y ∷ put_in lt x ys) (x ∷ y ∷ ys))
      go true rest = IsPermutation-trans (x ∷ y ∷ ys) (y ∷ x ∷ ys) (y ∷ put_in lt x ys) (IsPermutation-sym (y ∷ x ∷ ys) (x ∷ y ∷ ys) (IsPermutation-middle (y ∷ []) x ys)) (IsPermutation-cons y (x ∷ ys) (put_in lt x ys) rest)
      go false rest = IsPermutation-refl (x ∷ y ∷ ys)

  pub stable_sort_moves : (xs : List X) → IsPermutation xs (stable_sort lt xs)
  stable_sort_moves [] = IsPermutation-refl []
  stable_sort_moves (x ∷ xs) = IsPermutation-trans (x ∷ xs) (x ∷ stable_sort lt xs) (put_in lt x (stable_sort lt xs)) (IsPermutation-cons x xs (stable_sort lt xs) (stable_sort_moves xs)) (put_in_moves x (stable_sort lt xs))

  all_any : (xs : List X) → AllByRecursion (λ x. Unit {0}) xs
  all_any [] = tt
  all_any (x ∷ xs) = (tt, all_any xs)

  -- what a stable sort of std leaves
  pub stable_sort_is : (xs ys : List X) → IsSortedBy lt ys → IsStableBy lt xs ys → ys ≡ stable_sort lt xs
  stable_sort_is xs ys s t = one_list (λ x. Unit {0}) ys (stable_sort lt xs) (all_any ys) (all_any (stable_sort lt xs)) (rises_from_sorted ys s) (rises_stable_sort xs) (λ x p. t x ∙ sym (stable_sort_same xs x))

  pub stable_sort_none : (xs : List X) → Rises lt xs → stable_sort lt xs ≡ xs
  stable_sort_none xs r = one_list (λ x. Unit {0}) (stable_sort lt xs) xs (all_any (stable_sort lt xs)) (all_any xs) (rises_stable_sort xs) r (λ x p. stable_sort_same xs x)

  -- a permutation under an order in which only equals tie is stable
  all_same : (x : X) (us vs : List X) → AllByRecursion (λ y. x ≡ y) us → AllByRecursion (λ y. x ≡ y) vs → length us ≡ length vs → us ≡ vs
  all_same x [] [] a b e = refl
  all_same x [] (v ∷ vs) a b e = absurd (omega arith)
  all_same x (u ∷ us) [] a b e = absurd (omega arith)
  all_same x (u ∷ us) (v ∷ vs) a b e = let f : us ≡ vs = all_same x us vs a.1 b.1 (omega arith) in let g : u ≡ v = sym a.0 ∙ b.0 in cc

  kept_count : (p : X → Bool) (xs : List X) → length (filter p xs) ≡ sum_by (λ x. cond (p x) 1 0) xs
  kept_count p [] = refl
  kept_count p (x ∷ xs) = go (p x) refl (kept_count p xs)
    where
      go : (b : Bool) → p x ≡ b → length (filter p xs) ≡ sum_by (λ x. cond (p x) 1 0) xs → length (cond b (x ∷ filter p xs) (filter p xs)) ≡ sum_by (λ x. cond (p x) 1 0) (x ∷ xs)
      go true e rest = let f : cond {A = ℕ} (p x) 1 0 ≡ 1 = rw e refl in omega (arith, f, rest, sum_by-cons (λ x. cond (p x) 1 0) x xs)
      go false e rest = let f : cond {A = ℕ} (p x) 1 0 ≡ 0 = rw e refl in omega (arith, f, rest, sum_by-cons (λ x. cond (p x) 1 0) x xs)

  module _ (P : X → Type 0) (only : (x y : X) → P x → P y → ties lt x y ≡ true → x ≡ y) where
    all_moved : (xs ys : List X) → IsPermutation xs ys → AllByRecursion P xs → AllByRecursion P ys
    all_moved xs ys m a = recursion_from_All P ys (All-permutation P xs ys m (All-from_recursion P xs a))

    -- under an order in which only equals tie, a list in order that has the elements of xs is the sorted xs
    pub sort_of_permutation : (xs ys : List X) → AllByRecursion P xs → IsPermutation xs ys → Rises lt ys → ys ≡ stable_sort lt xs
    sort_of_permutation xs ys a m r = one_list P ys (stable_sort lt xs) b (all_moved xs (stable_sort lt xs) (stable_sort_moves xs) a) r (rises_stable_sort xs) (λ x p. alike x p ∙ sym (stable_sort_same xs x))
      where
        b : AllByRecursion P ys
        b = all_moved xs ys m a

        alike : (x : X) → P x → filter (ties lt x) ys ≡ filter (ties lt x) xs
        alike x p = all_same x (filter (ties lt x) ys) (filter (ties lt x) xs) (all_kept P (λ y. x ≡ y) (ties lt x) (λ y q e. only x y p q e) ys b) (all_kept P (λ y. x ≡ y) (ties lt x) (λ y q e. only x y p q e) xs a) (kept_count (ties lt x) ys ∙ sum_by-IsPermutation (λ y. cond (ties lt x y) 1 0) xs ys m ∙ sym (kept_count (ties lt x) xs))

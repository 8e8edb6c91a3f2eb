-- Lists in which nothing stands twice: what is put in is there, and has a number.
use Rattle.std.proofs.Common.{◌≡◌, ℕ, zero, suc, Bool, true, false, ◌||◌, List, [], ◌∷◌, ◌++◌, length, take, Option, Some, None, refl, ap, ◌∙◌, subst, cond, slice_get}
use Rattle.std.specs.Prelude.{if◌then◌else◌}
use Rattle.std.specs.List.{filter, list_any, AllByRecursion}
use Rattle.std.proofs.lemmas.Bool.{or_left, or_right}
use Rattle.std.proofs.lemmas.List.Folds.{list_any-append}
use Rattle.java_loops.specs.Lowering.Numbering.{with_new, with_all_new, number_where}

-- ---- Numbers

-- the number of the first member that passes, where one does
abbrev pub found_where : {A : Type 0} → (A → Bool) → List A → Option ℕ
found_where test xs = if list_any test xs then Some (number_where test xs) else None

pub found_is : {A : Type 0} (test : A → Bool) (xs : List A) → list_any test xs ≡ true → found_where test xs ≡ Some (number_where test xs)
found_is test xs h = ap (λ b. cond b (Some (number_where test xs)) None) h

-- the member with the number that is found passes the test
pub record Numbered {A : Type 0} (test : A → Bool) (xs : List A) : Type 0 where
  pub item : A
  pub there : slice_get xs (number_where test xs) ≡ Some item
  pub passes : test item ≡ true

record NumberedStep {A : Type 0} (test : A → Bool) (xs : List A) (k : ℕ) : Type 0 where
  item : A
  there : slice_get xs k ≡ Some item
  passes : test item ≡ true

numbered_step : {A : Type 0} (test : A → Bool) (x : A) (xs : List A) (b : Bool) → test x ≡ b → (list_any test xs ≡ true → Numbered test xs) → (b || list_any test xs) ≡ true → NumberedStep test (x ∷ xs) (cond b 0 (suc (number_where test xs)))
numbered_step test x xs true e more h = record { item = x; there = refl; passes = e }
numbered_step test x xs false e more h = let n = more h in record { item = n.item; there = n.there; passes = n.passes }

pub numbered : {A : Type 0} (test : A → Bool) (xs : List A) → list_any test xs ≡ true → Numbered test xs
numbered test [] h = absurd cc
numbered test (x ∷ xs) h = let s = numbered_step test x xs (test x) refl (λ i. numbered test xs i) h in record { item = s.item; there = s.there; passes = s.passes }

-- ---- What is put in

self_step : {A : Type 0} (same : A → A → Bool) (xs : List A) (x : A) (b : Bool) → list_any (same x) xs ≡ b → same x x ≡ true → list_any (same x) (cond b xs (xs ++ x ∷ [])) ≡ true
self_step same xs x true e h = e
self_step same xs x false e h = list_any-append (same x) xs (x ∷ []) ∙ or_right (list_any (same x) xs) (same x x || false) (or_left (same x x) false h)

-- a member that is put in is there
pub new_self : {A : Type 0} (same : A → A → Bool) (xs : List A) (x : A) → same x x ≡ true → list_any (same x) (with_new same xs x) ≡ true
new_self same xs x h = self_step same xs x (list_any (same x) xs) refl h

wider_step : {A : Type 0} (test : A → Bool) (xs : List A) (x : A) (b : Bool) → list_any test xs ≡ true → list_any test (cond b xs (xs ++ x ∷ [])) ≡ true
wider_step test xs x true h = h
wider_step test xs x false h = list_any-append test xs (x ∷ []) ∙ or_left (list_any test xs) (test x || false) h

-- what is there stays
pub new_wider : {A : Type 0} (test : A → Bool) (same : A → A → Bool) (xs : List A) (x : A) → list_any test xs ≡ true → list_any test (with_new same xs x) ≡ true
new_wider test same xs x h = wider_step test xs x (list_any (same x) xs) h

pub all_wider : {A : Type 0} (test : A → Bool) (same : A → A → Bool) (xs ys : List A) → list_any test xs ≡ true → list_any test (with_all_new same xs ys) ≡ true
all_wider test same xs [] h = h
all_wider test same xs (y ∷ ys) h = all_wider test same (with_new same xs y) ys (new_wider test same xs y h)

-- a member that equals itself is there where it is put in
abbrev pub IsThere : {A : Type 0} → (A → A → Bool) → List A → A → Type 0
IsThere same xs y = same y y ≡ true → list_any (same y) xs ≡ true

pub all_there : {A : Type 0} (same : A → A → Bool) (xs ys : List A) → AllByRecursion (IsThere same (with_all_new same xs ys)) ys
all_there same xs [] = tt
all_there same xs (y ∷ ys) = ((λ h. all_wider (same y) same (with_new same xs y) ys (new_self same xs y h)), all_there same (with_new same xs y) ys)

-- ---- Filtered lists

first_step : {A : Type 0} (p : A → Bool) (y : A) (ys : List A) (b : Bool) → p y ≡ b → p y ≡ true → slice_get (cond b (y ∷ filter p ys) (filter p ys)) 0 ≡ Some y
first_step p y ys true e h = refl
first_step p y ys false e h = absurd cc

later_step : {A : Type 0} (y x : A) (fs gs : List A) (b : Bool) → slice_get fs (length gs) ≡ Some x → slice_get (cond b (y ∷ fs) fs) (length (cond b (y ∷ gs) gs)) ≡ Some x
later_step y x fs gs true h = h
later_step y x fs gs false h = h

-- a member that passes stands in the filtered list behind those before it that pass
pub filtered_at : {A : Type 0} (p : A → Bool) (xs : List A) (k : ℕ) (x : A) → slice_get xs k ≡ Some x → p x ≡ true → slice_get (filter p xs) (length (filter p (take k xs))) ≡ Some x
filtered_at p [] k x e h = absurd cc
filtered_at p (y ∷ ys) zero x e h = let same : y ≡ x = cc in subst (λ z. slice_get (filter p (y ∷ ys)) 0 ≡ Some z) same (first_step p y ys (p y) refl (ap p same ∙ h))
filtered_at p (y ∷ ys) (suc k) x e h = later_step y x (filter p ys) (filter p (take k ys)) (p y) (filtered_at p ys k x e h)

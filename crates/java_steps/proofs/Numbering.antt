-- Numbers that are noted at places, and names by their numbers.
use Rattle.std.proofs.Common.{◌≡◌, ℕ, zero, suc, ◌+◌, ◌<◌, List, [], ◌∷◌, ◌++◌, length, map, set, get_or, Bool, true, false, cond, not, OnOk, Result, Ok, Err, Bor, arith, refl, ap, ap₂, ◌∙◌}
use Rattle.std.specs.Prelude.{bytes_eq, nat_eq, ◌||◌, if◌then◌else◌}
use Rattle.std.specs.List.{list_any, position_or_len}
use Rattle.std.proofs.lemmas.Bool.Decides.{nat_tests}
use Rattle.std.proofs.lemmas.List.{get_or-set_same, get_or-set_other}
use Rattle.indexmap.specs.IndexSet.{insert_key}
use Rattle.java_steps.specs.Numbered.{Numbers, noted, number_at, number_of, numbers_of, with_name}
use Rattle.java_steps.specs.Placed.{same}

-- ---- Numbers at places

-- a list that is filled by 0 has the same numbers
pub filled : (xs : List ℕ) (i : ℕ) → get_or (xs ++ 0 ∷ []) i 0 ≡ get_or xs i 0
filled [] zero = refl
filled [] (suc i) = refl
filled (x ∷ xs) zero = refl
filled (x ∷ xs) (suc i) = filled xs i

pub written : (xs : List ℕ) (place number i : ℕ) → place < length xs → get_or (set xs place number) i 0 ≡ (if nat_eq i place then number else get_or xs i 0)
written xs place number i lt = go (nat_eq i place) refl
  where
    go : (b : Bool) → nat_eq i place ≡ b → get_or (set xs place number) i 0 ≡ (if b then number else get_or xs i 0)
    go true e = let h : i ≡ place = grind (arith, nat_tests) in ap (λ j. get_or (set xs place number) j 0) h ∙ get_or-set_same xs place number 0 lt
    go false e = get_or-set_other xs place i number 0 (λ h. absurd (grind (arith, nat_tests)))

pub still_filled : (xs ys old : List ℕ) → ys ≡ xs ++ 0 ∷ [] → ((i : ℕ) → get_or xs i 0 ≡ get_or old i 0) → (i : ℕ) → get_or ys i 0 ≡ get_or old i 0
still_filled xs ys old e h i = ap (λ (l : List ℕ). get_or l i 0) e ∙ filled xs i ∙ h i

pub number_put : (xs ys old : List ℕ) (place number : ℕ) → place < length xs → ys ≡ set xs place number → ((i : ℕ) → get_or xs i 0 ≡ get_or old i 0) → (i : ℕ) → get_or ys i 0 ≡ (if nat_eq i place then number else get_or old i 0)
number_put xs ys old place number lt e h i = ap (λ (l : List ℕ). get_or l i 0) e ∙ written xs place number i lt ∙ ap (λ (n : ℕ). if nat_eq i place then number else n) (h i)

-- ---- Names by their numbers

any_name : (k : Bor (List ℕ)) (ks : List (Bor (List ℕ))) → list_any (same k) ks ≡ list_any (bytes_eq k.now) (map (λ x. x.now) ks)
any_name k [] = refl
any_name k (j ∷ js) = ap (λ b. bytes_eq k.now j.now || b) (any_name k js)

moved : (k : Bor (List ℕ)) (ks : List (Bor (List ℕ))) → map (λ x. x.now) (ks ++ k ∷ []) ≡ map (λ x. x.now) ks ++ k.now ∷ []
moved k [] = refl
moved k (j ∷ js) = ap (λ (xs : List (List ℕ)). j.now ∷ xs) (moved k js)

pub names_more : (k : Bor (List ℕ)) (ks : List (Bor (List ℕ))) → map (λ x. x.now) (insert_key same ks k) ≡ with_name (map (λ x. x.now) ks) k.now
names_more k ks = go (list_any (same k) ks) ∙ ap (λ b. if b then map (λ x. x.now) ks else map (λ x. x.now) ks ++ k.now ∷ []) (any_name k ks)
  where
    go : (b : Bool) → map (λ x. x.now) (if b then ks else ks ++ k ∷ []) ≡ (if b then map (λ x. x.now) ks else map (λ x. x.now) ks ++ k.now ∷ [])
    go true = refl
    go false = moved k ks

pub numbered : (k : Bor (List ℕ)) (ks : List (Bor (List ℕ))) → position_or_len (same k) ks ≡ number_of (map (λ x. x.now) ks) k.now
numbered k [] = refl
numbered k (j ∷ js) = ap (λ n. cond (not (bytes_eq k.now j.now)) (1 + n) 0) (numbered k js)

-- a name that is noted at a place
module _ {A E : Type 0} (r : Result A E) (ks later : List (Bor (List ℕ))) (ps : List ℕ) (seen : Numbers) (k : Bor (List ℕ)) (x : List ℕ) (is : numbers_of ks ps ≡ seen) (named : k.now ≡ x) where
  pub names_again : (new : List (List ℕ)) → later ≡ insert_key same ks k → new ≡ map (λ y. y.now) later → OnOk r (new ≡ with_name seen.names x)
  names_again new e f = go r (f ∙ ap (map (λ y. y.now)) e ∙ names_more k ks ∙ ap₂ with_name (ap (λ (s : Numbers). s.names) is) named)
    where
      go : (q : Result A E) → new ≡ with_name seen.names x → OnOk q (new ≡ with_name seen.names x)
      go (Ok u) h = h
      go (Err u) h = tt

  pub noted_again : (new : Numbers) (start number : ℕ) → number ≡ position_or_len (same k) ks → OnOk r ((place : ℕ) → number_at new place ≡ noted (numbers_of later ps) start number place) → OnOk r ((place : ℕ) → number_at new place ≡ noted seen start (number_of seen.names x) place)
  noted_again new start number e = go r
    where
      go : (q : Result A E) → OnOk q ((place : ℕ) → number_at new place ≡ noted (numbers_of later ps) start number place) → OnOk q ((place : ℕ) → number_at new place ≡ noted seen start (number_of seen.names x) place)
      go (Ok u) h = λ place.
          h place
          ∙ ap (λ (n : ℕ). noted (numbers_of later ps) start n place) (e ∙ numbered k ks ∙ ap₂ number_of (ap (λ (s : Numbers). s.names) is) named)
          ∙ ap (λ (s : Numbers). noted s start (number_of seen.names x) place) is
      go (Err u) h = tt

-- Lists that give what functions of numbers give.
use Rattle.std.proofs.Common.{◌≡◌, ℕ, zero, suc, ◌<◌, ◌≤◌, Bool, true, false, cond, List, [], ◌∷◌, length, nat_eq, slice_get, get_or, refl, sym, ap, ◌∙◌, arith, eqb-true, eq-eqb}
use mathlib.Core.Path.{fun_ext}
use Rattle.std.specs.declared.option.Option.TheVariants.{Some, None}
use Rattle.qbs_base.specs.declared.scalar.Row.{Row}
use Rattle.qbs_base.specs.declared.scalar.Value.{Value}
use Rattle.qbs_base.specs.declared.scalar.Value.TheVariants.{Many}
use Rattle.tor_terms.specs.Truth.{Datum}
use Rattle.tor_terms.specs.Value.{plain_row}
use Rattle.tor_terms.specs.Worlds.{held_list}
use Rattle.kernel_lang.specs.Running.{with_row, placed}
use Rattle.vc_gen.proofs.Uses.{turns_with, held_with}

-- the list with x at the place n, filled up to there
abbrev pub put : {X : Type 0} → ℕ → X → X → List X → List X
put zero x d [] = x ∷ []
put zero x d (y ∷ ys) = x ∷ ys
put (suc n) x d [] = d ∷ put n x d []
put (suc n) x d (y ∷ ys) = y ∷ put n x d ys

not_equal : (n j : ℕ) → nat_eq n j ≡ false → n ≡ j → ⊥
not_equal n j h e = let k : nat_eq n j ≡ true = eq-eqb n j e in absurd cc

put_same : {X : Type 0} (n : ℕ) (x d : X) (xs : List X) → get_or (put n x d xs) n d ≡ x
put_same zero x d [] = refl
put_same zero x d (y ∷ ys) = refl
put_same (suc n) x d [] = put_same n x d []
put_same (suc n) x d (y ∷ ys) = put_same n x d ys

put_other : {X : Type 0} (n j : ℕ) (x d : X) (xs : List X) → (n ≡ j → ⊥) → get_or (put n x d xs) j d ≡ get_or xs j d
put_other zero zero x d xs h = absurd (h refl)
put_other zero (suc j) x d [] h = refl
put_other zero (suc j) x d (y ∷ ys) h = refl
put_other (suc n) zero x d [] h = refl
put_other (suc n) zero x d (y ∷ ys) h = refl
put_other (suc n) (suc j) x d [] h = put_other n j x d [] (λ e. h (ap suc e))
put_other (suc n) (suc j) x d (y ∷ ys) h = put_other n j x d ys (λ e. h (ap suc e))

pub put_at : {X : Type 0} (n : ℕ) (x d : X) (xs : List X) (j : ℕ) → get_or (put n x d xs) j d ≡ cond (nat_eq n j) x (get_or xs j d)
put_at n x d xs j = go (nat_eq n j) refl
  where
    go : (b : Bool) → nat_eq n j ≡ b → get_or (put n x d xs) j d ≡ cond b x (get_or xs j d)
    go true e = ap (λ k. get_or (put n x d xs) k d) (sym (eqb-true n j e)) ∙ put_same n x d xs
    go false e = put_other n j x d xs (not_equal n j e)

pub put_long : {X : Type 0} (n : ℕ) (x d : X) (xs : List X) (m : ℕ) → m ≤ length xs → m ≤ length (put n x d xs)
put_long {X = X} n x d xs m h = let k : length xs ≤ length (put n x d xs) = go n xs in omega (arith, h, k)
  where
    go : (n : ℕ) (xs : List X) → length xs ≤ length (put n x d xs)
    go zero [] = omega arith
    go zero (y ∷ ys) = omega arith
    go (suc n) [] = omega arith
    go (suc n) (y ∷ ys) = let k : length ys ≤ length (put n x d ys) = go n ys in omega (arith, k)

-- held values
pub put_there : (n : ℕ) (v : Value) (vs : List Value) → slice_get (put n v (Many []) vs) n ≡ Some v
put_there zero v [] = refl
put_there zero v (y ∷ ys) = refl
put_there (suc n) v [] = put_there n v []
put_there (suc n) v (y ∷ ys) = put_there n v ys

held_other : (n j : ℕ) (v : Value) (vs : List Value) → (n ≡ j → ⊥) → held_list (slice_get (put n v (Many []) vs) j) ≡ held_list (slice_get vs j)
held_other zero zero v vs h = absurd (h refl)
held_other zero (suc j) v [] h = refl
held_other zero (suc j) v (y ∷ ys) h = refl
held_other (suc n) zero v [] h = refl
held_other (suc n) zero v (y ∷ ys) h = refl
held_other (suc n) (suc j) v [] h = held_other n j v [] (λ e. h (ap suc e))
held_other (suc n) (suc j) v (y ∷ ys) h = held_other n j v ys (λ e. h (ap suc e))

held_at : (n : ℕ) (v : Value) (vs : List Value) (j : ℕ) → held_list (slice_get (put n v (Many []) vs) j) ≡ cond (nat_eq n j) (held_list (Some v)) (held_list (slice_get vs j))
held_at n v vs j = go (nat_eq n j) refl
  where
    go : (b : Bool) → nat_eq n j ≡ b → held_list (slice_get (put n v (Many []) vs) j) ≡ cond b (held_list (Some v)) (held_list (slice_get vs j))
    go true e = ap (λ k. held_list (slice_get (put n v (Many []) vs) k)) (sym (eqb-true n j e)) ∙ ap held_list (put_there n v vs)
    go false e = held_other n j v vs (not_equal n j e)

-- as functions
abbrev pub turns_in : List ℕ → ℕ → ℕ
turns_in ts j = get_or ts j 0

abbrev pub rows_in : List Row → ℕ → Row
rows_in rs j = get_or rs j (plain_row None)

abbrev pub held_in : List Value → ℕ → List Datum
held_in vs n = held_list (slice_get vs n)

pub turns_put : (ts : List ℕ) (t : ℕ → ℕ) (j m : ℕ) → turns_in ts ≡ t → turns_in (put j m 0 ts) ≡ turns_with t j m
turns_put ts t j m e = fun_ext (λ k. put_at j m 0 ts k ∙ ap (λ (g : ℕ → ℕ). cond (nat_eq j k) m (g k)) e)

pub rows_put : (rs : List Row) (c : ℕ → Row) (j : ℕ) (r : Row) → rows_in rs ≡ c → rows_in (put j r (plain_row None) rs) ≡ with_row c j r
rows_put rs c j r e = fun_ext (λ k. put_at j r (plain_row None) rs k ∙ ap (λ (g : ℕ → Row). cond (nat_eq j k) r (g k)) e)

pub held_put : (vs : List Value) (h : ℕ → List Datum) (n : ℕ) (v : Value) (x : List Datum) → held_in vs ≡ h → x ≡ held_list (Some v) → held_in (put n v (Many []) vs) ≡ held_with h n x
held_put vs h n v x e d = fun_ext (λ k. held_at n v vs k ∙ ap (λ y. cond (nat_eq n k) y (held_list (slice_get vs k))) (sym d) ∙ ap (λ (g : ℕ → List Datum). cond (nat_eq n k) x (g k)) e)

-- ---- at the start

abbrev pub pad : {X : Type 0} → ℕ → X → List X
pad zero d = []
pad (suc n) d = d ∷ pad n d

pad_at : {X : Type 0} (n : ℕ) (d : X) (j : ℕ) → get_or (pad n d) j d ≡ d
pad_at zero d j = refl
pad_at (suc n) d zero = refl
pad_at (suc n) d (suc j) = pad_at n d j

pad_long : {X : Type 0} (n : ℕ) (d : X) → n ≤ length (pad n d)
pad_long zero d = omega arith
pad_long (suc n) d = let k : n ≤ length (pad n d) = pad_long n d in omega (arith, k)

-- the rows of loops as a list of at least n
abbrev pub placed_list : ℕ → List ℕ → List Row → List Row
placed_list n [] rs = pad n (plain_row None)
placed_list n (j ∷ js) [] = pad n (plain_row None)
placed_list n (j ∷ js) (r ∷ rs) = put j r (plain_row None) (placed_list n js rs)

placed_at : (n : ℕ) (ls : List ℕ) (rs : List Row) (k : ℕ) → rows_in (placed_list n ls rs) k ≡ placed ls rs k
placed_at n [] rs k = pad_at n (plain_row None) k
placed_at n (j ∷ js) [] k = pad_at n (plain_row None) k
placed_at n (j ∷ js) (r ∷ rs) k = put_at j r (plain_row None) (placed_list n js rs) k ∙ ap (λ q. cond (nat_eq j k) r q) (placed_at n js rs k)

pub placed_rows : (n : ℕ) (ls : List ℕ) (rs : List Row) → rows_in (placed_list n ls rs) ≡ placed ls rs
placed_rows n ls rs = fun_ext (placed_at n ls rs)

pub placed_long : (n : ℕ) (ls : List ℕ) (rs : List Row) → n ≤ length (placed_list n ls rs)
placed_long n [] rs = pad_long n (plain_row None)
placed_long n (j ∷ js) [] = pad_long n (plain_row None)
placed_long n (j ∷ js) (r ∷ rs) = put_long j r (plain_row None) (placed_list n js rs) n (placed_long n js rs)

-- the turns of the first n loops
abbrev pub first_of : ℕ → (ℕ → ℕ) → List ℕ
first_of zero t = []
first_of (suc n) t = t zero ∷ first_of n (λ j. t (suc j))

pub first_at : (n : ℕ) (t : ℕ → ℕ) (j : ℕ) → j < n → turns_in (first_of n t) j ≡ t j
first_at zero t j h = absurd (omega (arith, h))
first_at (suc n) t zero h = refl
first_at (suc n) t (suc j) h = first_at n (λ k. t (suc k)) j (omega (arith, h))

pub first_long : (n : ℕ) (t : ℕ → ℕ) → n ≤ length (first_of n t)
first_long zero t = omega arith
first_long (suc n) t = let k : n ≤ length (first_of n (λ j. t (suc j))) = first_long n (λ j. t (suc j)) in omega (arith, k)

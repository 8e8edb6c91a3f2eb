-- A list that is changed from front to back.
use Rattle.std.proofs.Common.{◌≡◌, ℕ, zero, suc, ◌+◌, List, [], ◌∷◌, ◌++◌, take, drop, map, get_or, refl, ap, add-one}
use Rattle.std.specs.Prelude.{slice_set}

one_more : {A : Type 0} (f : A → A) (xs : List A) (i : ℕ) (x : A) → x ≡ get_or (map f (take i xs) ++ drop i xs) i x
    → slice_set (map f (take i xs) ++ drop i xs) i (f x) ≡ map f (take (suc i) xs) ++ drop (suc i) xs
one_more f [] zero x is = refl
one_more f [] (suc i) x is = refl
one_more f (y ∷ xs) zero x is = ap (λ z. f z ∷ xs) is
one_more f (y ∷ xs) (suc i) x is = ap (λ l. f y ∷ l) (one_more f xs i x is)

pub changed_on : {A : Type 0} (f : A → A) (old now : List A) (i : ℕ) (x y : A) → now ≡ map f (take i old) ++ drop i old → x ≡ get_or now i x → y ≡ f x
    → slice_set now i y ≡ map f (take (i + 1) old) ++ drop (i + 1) old
changed_on f old now i x y so_far is changed = rw (add-one, changed, so_far) (one_more f old i x (rw so_far at is))

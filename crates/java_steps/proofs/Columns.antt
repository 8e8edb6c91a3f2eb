-- Lists item by item.
use Rattle.std.proofs.Common.{◌≡◌, ℕ, zero, suc, ◌+◌, ◌<◌, List, [], ◌∷◌, ◌++◌, length, drop, take, sym, ap, ◌∙◌, get_or, slice_get, option_map, Some, IfOk, Result, Ok, Err, drop-cons, add-one, arith}

pub next_item : {A : Type 0} (xs : List A) (i : ℕ) (x : A) → i < length xs → x ≡ get_or xs i x → drop i xs ≡ x ∷ drop (i + 1) xs
next_item {A} xs i x h e = rw (drop-cons xs i x, add-one) (ap (λ (y : A). y ∷ drop (suc i) xs) (sym e))

take_suc : {A : Type 0} (xs : List A) (i : ℕ) (x : A) → i < length xs → x ≡ get_or xs i x → take (suc i) xs ≡ take i xs ++ x ∷ []
take_suc {A} [] i x h e = absurd (omega arith)
take_suc {A} (y ∷ ys) zero x h e = ap (λ (z : A). z ∷ []) (sym e)
take_suc {A} (y ∷ ys) (suc i) x h e = ap (λ (zs : List A). y ∷ zs) (take_suc ys i x (omega arith) e)

pub take_next : {A : Type 0} (xs : List A) (i : ℕ) (x : A) → i < length xs → x ≡ get_or xs i x → take (i + 1) xs ≡ take i xs ++ x ∷ []
take_next xs i x h e = rw add-one (take_suc xs i x h e)

there : {A B : Type 0} (f : A → B) (xs : List A) (i : ℕ) (x : A) → i < length xs → x ≡ get_or xs i x → Some (f x) ≡ option_map f (slice_get xs i)
there {A} {B} f [] i x h e = absurd (omega arith)
there {A} {B} f (y ∷ ys) zero x h e = ap (λ (z : A). Some (f z)) e
there {A} {B} f (y ∷ ys) (suc i) x h e = there f ys i x (omega arith) e

-- what is made of the item at a place
pub value_there : {A B E H : Type 0} (f : A → B) (g : H → B) (xs : List A) (i : ℕ) (x : A) (r : Result H E) → i < length xs → x ≡ get_or xs i x → IfOk r (λ h. g h ≡ f x) → IfOk r (λ h. Some (g h) ≡ option_map f (slice_get xs i))
value_there f g xs i x (Ok h) lt at is = ap Some is ∙ there f xs i x lt at
value_there f g xs i x (Err e) lt at is = tt

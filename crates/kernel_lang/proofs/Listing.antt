-- Tests that hold together, and members of lists by number.
use Rattle.std.proofs.Common.{◌≡◌, ℕ, zero, suc, Bool, true, false, ◌&&◌, List, [], ◌∷◌, slice_get, refl, ap, subst}
use Rattle.std.specs.List.{list_all, AllByRecursion}
use Rattle.std.specs.declared.option.Option.TheVariants.{Some, None}

pub and_left : (a b : Bool) → (a && b) ≡ true → a ≡ true
and_left true b h = refl
and_left false b h = absurd cc

pub and_right : (a b : Bool) → (a && b) ≡ true → b ≡ true
and_right true b h = h
and_right false b h = absurd cc

pub and_three : (a b c : Bool) → (a && b && c) ≡ true → (a ≡ true) × (b ≡ true) × (c ≡ true)
and_three a b c h = (and_left a b (and_left (a && b) c h), and_right a b (and_left (a && b) c h), and_right (a && b) c h)

pub and_four : (a b c d : Bool) → (a && b && c && d) ≡ true → (a ≡ true) × (b ≡ true) × (c ≡ true) × (d ≡ true)
and_four a b c d h =
    let k = and_three a b c (and_left (a && b && c) d h) in
    (k.0, k.1, k.2, and_right (a && b && c) d h)

pub some_eq : {X : Type 0} (x y : X) → Some x ≡ Some y → x ≡ y
some_eq x y e = ap (λ o. elim o [ Some z ↦ z | None ↦ x ]) e

pub all_at : {X : Type 0} (P : X → Type 0) (xs : List X) (k : ℕ) (x : X) → AllByRecursion P xs → slice_get xs k ≡ Some x → P x
all_at P [] k x h e = absurd cc
all_at P (y ∷ ys) zero x h e = subst P (some_eq y x e) h.0
all_at P (y ∷ ys) (suc k) x h e = all_at P ys k x h.1 e

pub list_all_at : {X : Type 0} (test : X → Bool) (xs : List X) (k : ℕ) (x : X) → list_all test xs ≡ true → slice_get xs k ≡ Some x → test x ≡ true
list_all_at test [] k x h e = absurd cc
list_all_at test (y ∷ ys) zero x h e = subst (λ z. test z ≡ true) (some_eq y x e) (and_left (test y) (list_all test ys) h)
list_all_at test (y ∷ ys) (suc k) x h e = list_all_at test ys k x (and_right (test y) (list_all test ys) h) e

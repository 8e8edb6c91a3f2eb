-- Options that are given, one after the other.
use Rattle.std.proofs.Common.{◌≡◌, subst, ℕ, zero, suc, Bool, true, false, List, [], ◌∷◌, ◌++◌, map, length, Option, Some, None, refl, ap, cond}
use Rattle.std.specs.List.{AllByRecursion}
use Rattle.std.specs.Prelude.{slice_get}
use Rattle.sql_ast.specs.Names.{◌>>=◌}

pub some_is : {A : Type 0} (x y : A) → (let a : Option A = Some x in a) ≡ Some y → x ≡ y
some_is {A} x y e = ap (λ (o : Option A). elim o as (λ _. A) [ Some z ↦ z | None ↦ x ]) e

pub bind_some : {A B : Type 0} (o : Option A) (f : A → Option B) (y : B) → (o >>= f) ≡ Some y → (x : A) × (o ≡ Some x) × (f x ≡ Some y)
bind_some (Some x) f y e = (x, refl, e)
bind_some None f y e = absurd cc

-- a test that is passed
pub passed : {A : Type 0} (b : Bool) (o : Option A) (y : A) → cond b o None ≡ Some y → (b ≡ true) × (o ≡ Some y)
passed true o y e = (refl, e)
passed false o y e = absurd cc

pub all_parts : {X : Type 0} (P : X → Type 0) (xs ys : List X) → AllByRecursion P (xs ++ ys) → AllByRecursion P xs × AllByRecursion P ys
all_parts P [] ys a = (tt, a)
all_parts P (x ∷ xs) ys a = let b = all_parts P xs ys a.1 in ((a.0, b.0), b.1)

pub all_joined : {X : Type 0} (P : X → Type 0) (xs ys : List X) → AllByRecursion P xs → AllByRecursion P ys → AllByRecursion P (xs ++ ys)
all_joined P [] ys a b = b
all_joined P (x ∷ xs) ys a b = (a.0, all_joined P xs ys a.1 b)

pub all_at : {X : Type 0} (P : X → Type 0) (xs : List X) (n : ℕ) (x : X) → AllByRecursion P xs → slice_get xs n ≡ Some x → P x
all_at P [] n x a e = absurd cc
all_at P (y ∷ ys) zero x a e = subst_all P y x (some_is y x e) a.0
  where
    subst_all : {X : Type 0} (P : X → Type 0) (y x : X) → y ≡ x → P y → P x
    subst_all P y x e p = subst P e p
all_at P (y ∷ ys) (suc n) x a e = all_at P ys n x a.1 e

pub slice_get_map : {X Y : Type 0} (f : X → Y) (xs : List X) (n : ℕ) (x : X) → slice_get xs n ≡ Some x → slice_get (map f xs) n ≡ Some (f x)
slice_get_map f [] n x e = absurd cc
slice_get_map {X} {Y} f (y ∷ ys) zero x e = ap (λ (z : X). let o : Option Y = Some (f z) in o) (some_is y x e)
slice_get_map f (y ∷ ys) (suc n) x e = slice_get_map f ys n x e

pub slice_get_after : {X : Type 0} (xs : List X) (x : X) → slice_get (xs ++ x ∷ []) (length xs) ≡ Some x
slice_get_after [] x = refl
slice_get_after (y ∷ ys) x = slice_get_after ys x

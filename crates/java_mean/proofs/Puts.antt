-- A store after a write.
use Rattle.std.proofs.Common.{◌≡◌, ℕ, Bool, true, false, List, [], ◌∷◌, refl, ap, ◌∙◌, cond, Some}
use Rattle.std.specs.Prelude.{bytes_eq}
use Rattle.std.proofs.lemmas.Slice.Eq.{bytes_eq-Decides}
use Rattle.qbs_base.specs.Named.{at_name}
use Rattle.java_mean.specs.Store.{Store, Variable, put}

pub names_equal : (x y : List ℕ) → bytes_eq x y ≡ true → x ≡ y
names_equal x y e = (bytes_eq-Decides x y).0 e

pub name_same : (x : List ℕ) → bytes_eq x x ≡ true
name_same x = (bytes_eq-Decides x x).1 refl

other_name : (n x y : List ℕ) → n ≡ x → bytes_eq x y ≡ false → bytes_eq n y ≡ false
other_name n x y e ne = ap (λ z. bytes_eq z y) e ∙ ne

other_step : (b : List ℕ × Variable) (bs : Store) (x y : List ℕ) (v : Variable) (p : Bool) → bytes_eq b.0 x ≡ p → bytes_eq x y ≡ false → at_name (put bs x v) y ≡ at_name bs y → at_name (cond p ((b.0, v) ∷ bs) (b ∷ put bs x v)) y ≡ at_name (b ∷ bs) y
other_step b bs x y v true same ne ih = rw (other_name b.0 x y (names_equal b.0 x same) ne) refl
other_step b bs x y v false same ne ih = ap (cond (bytes_eq b.0 y) (Some b.1)) ih

pub put_other : (s : Store) (x y : List ℕ) (v : Variable) → bytes_eq x y ≡ false → at_name (put s x v) y ≡ at_name s y
put_other [] x y v ne = rw ne refl
put_other (b ∷ bs) x y v ne = other_step b bs x y v (bytes_eq b.0 x) refl ne (put_other bs x y v ne)

same_step : (b : List ℕ × Variable) (bs : Store) (x : List ℕ) (v : Variable) (p : Bool) → bytes_eq b.0 x ≡ p → at_name (put bs x v) x ≡ Some v → at_name (cond p ((b.0, v) ∷ bs) (b ∷ put bs x v)) x ≡ Some v
same_step b bs x v true same ih = rw same refl
same_step b bs x v false same ih = rw same ih

pub put_same : (s : Store) (x : List ℕ) (v : Variable) → at_name (put s x v) x ≡ Some v
put_same [] x v = rw (name_same x) refl
put_same (b ∷ bs) x v = same_step b bs x v (bytes_eq b.0 x) refl (put_same bs x v)

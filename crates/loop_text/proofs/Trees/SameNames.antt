-- Names that are the same.
use Rattle.std.proofs.Common.{◌≡◌, ℕ, List, true, refl}
use Rattle.std.specs.Prelude.{bytes_eq}
use Rattle.std.proofs.lemmas.Slice.Eq.{bytes_eq-Decides}

pub names_equal : (x y : List ℕ) → bytes_eq x y ≡ true → x ≡ y
names_equal x y e = (bytes_eq-Decides x y).0 e

pub name_same : (x : List ℕ) → bytes_eq x x ≡ true
name_same x = (bytes_eq-Decides x x).1 refl

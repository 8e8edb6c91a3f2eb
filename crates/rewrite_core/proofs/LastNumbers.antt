-- The last number of a path.
use Rattle.std.specs.Prelude.{ℕ, zero, suc, List, [], ◌∷◌, Option, Some, None, slice_get}
use Rattle.std.proofs.Common.{◌≡◌, ◌-◌, length, get_or, refl, ap, ◌∙◌, arith}
use Rattle.java_ast.specs.Path.{last_of}

last_is : (path : List ℕ) → get_or path (length path - 1) 0 ≡ last_of path
last_is [] = refl
last_is (n ∷ []) = refl
last_is (n ∷ m ∷ path) =
    let e : length (n ∷ m ∷ path) - 1 ≡ suc (length (m ∷ path) - 1) = omega arith in
    ap (λ (k : ℕ). get_or (n ∷ m ∷ path) k 0) e ∙ last_is (m ∷ path)

number_at : (path : List ℕ) (k n : ℕ) → Some n ≡ slice_get path k → n ≡ get_or path k 0
number_at [] k n e = absurd cc
number_at (m ∷ path) zero n e = cc
number_at (m ∷ path) (suc k) n e = number_at path k n e

none_at : (path : List ℕ) (k : ℕ) → None ≡ slice_get path k → 0 ≡ get_or path k 0
none_at [] k e = refl
none_at (m ∷ path) zero e = absurd cc
none_at (m ∷ path) (suc k) e = none_at path k e

pub last_number_is : (path : List ℕ) (n : ℕ) → Some n ≡ slice_get path (length path - 1) → n ≡ last_of path
last_number_is path n e = number_at path (length path - 1) n e ∙ last_is path

pub no_last_number : (path : List ℕ) → None ≡ slice_get path (length path - 1) → 0 ≡ last_of path
no_last_number path e = none_at path (length path - 1) e ∙ last_is path

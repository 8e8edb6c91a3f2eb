-- Keys of maps that are lent bytes.
use Rattle.std.specs.Prelude.{◌≡◌, Bool, true, ℕ, List, Some, bytes_eq, slice_get}
use Rattle.std.specs.Borrow.{Bor}

abbrev pub test : List ℕ → Bor (List ℕ) → Bool
test x k = bytes_eq x k.now

abbrev pub same : Bor (List ℕ) → Bor (List ℕ) → Bool
same j k = bytes_eq j.now k.now

-- an entry with this key stands at the place
pub record Stands {V : Type 0} (es : List (Bor (List ℕ) × V)) (place : ℕ) (x : List ℕ) : Type 0 where
  pub key : Bor (List ℕ)
  pub value : V
  pub at : slice_get es place ≡ Some (key, value)
  pub is : bytes_eq key.now x ≡ true

-- the same, where the value is this one
pub record IsAt {V : Type 0} (es : List (Bor (List ℕ) × V)) (place : ℕ) (x : List ℕ) (value : V) : Type 0 where
  pub key : Bor (List ℕ)
  pub at : slice_get es place ≡ Some (key, value)
  pub is : bytes_eq key.now x ≡ true

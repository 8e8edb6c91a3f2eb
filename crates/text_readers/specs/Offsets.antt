-- Lists of values with texts, numbers with a limit, and where bytes stop being the front of a text.
use Rattle.std.specs.Prelude.{◌≤◌, ◌<◌, ℕ, List, [], ◌∷◌, length, take}
use Rattle.readers.specs.Reading.{BeginsOne}

abbrev pub Each : {A : Type 0} → (A → Type 0) → List A → Type 0
Each P [] = Unit {0}
Each P (x ∷ xs) = P x × Each P xs

abbrev pub IsBelow : ℕ → ℕ → Type 0
IsBelow limit n = n < limit

-- ---- the place of a fault: the length of the longest front with which some member begins, where
-- the bytes are no member
pub record IsOffset {A : Type 0} (Has : List ℕ → A → Type 0) (bytes : List ℕ) (offset : ℕ) : Type 0 where
  pub within : offset ≤ length bytes
  pub begins : BeginsOne Has (take offset bytes)
  pub longest : (n : ℕ) → offset < n → n ≤ length bytes → BeginsOne Has (take n bytes) → ⊥
  pub no_member : (x : A) → Has bytes x → ⊥

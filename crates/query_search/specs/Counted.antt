-- How many of the candidates before an answer are counted.
use Rattle.std.specs.Prelude.{ℕ, ◌+◌, List, [], ◌∷◌, ◌⊎◌}

-- Of the candidates from the number k on and below the end so many are counted: each that is counted may be dropped, and each that
-- isn't may be kept.
pub data AreCounted (may_drop may_keep : ℕ → Type 0) : ℕ → ℕ → ℕ → Type 0 where
  none : (k : ℕ) → AreCounted may_drop may_keep k k 0
  counted : (k end n : ℕ) → may_drop k → AreCounted may_drop may_keep (k + 1) end n → AreCounted may_drop may_keep k end (n + 1)
  passed : (k end n : ℕ) → may_keep k → AreCounted may_drop may_keep (k + 1) end n → AreCounted may_drop may_keep k end n

-- one of them is so
abbrev pub OneIs : {P : Type 0} → (P → Type 0) → List P → Type 0
OneIs S [] = ⊥
OneIs S (p ∷ ps) = S p ⊎ OneIs S ps

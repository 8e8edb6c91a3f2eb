-- Lists that are found up to a limit: whole, or with more members than it where the whole has more too.
use Rattle.std.specs.Prelude.{◌≡◌, ℕ, ◌<◌, ◌≤◌, List, length}
use Rattle.std.specs.declared.option.Option.{Option}
use Rattle.std.specs.declared.option.Option.TheVariants.{Some, None}

-- What is found so far goes on to be the whole, or both it and the whole have more than n members.
pub data Reaches {A : Type 0} (n : ℕ) (found now whole : List A) : Type 0 where
  goes : now ≡ whole → Reaches n found now whole
  passes : n < length found → n < length whole → Reaches n found now whole

-- what is found is the whole, or both have more than n members
abbrev pub IsUpTo : {A : Type 0} → ℕ → List A → List A → Type 0
IsUpTo n found whole = Reaches n found found whole

-- the whole, of at most n members, and none where it has more
abbrev pub AreFew : {A : Type 0} → ℕ → List A → Option (List A) → Type 0
AreFew n whole (Some found) = (found ≡ whole) × (length found ≤ n)
AreFew n whole None = n < length whole

-- Items that are put into a bank.
use Rattle.std.specs.Prelude.{◌⊎◌, ◌≤◌, List, [], ◌∷◌, ◌++◌, length}
use Rattle.std.specs.List.{Contains}
use Rattle.small_dbs.specs.declared.small.SmallDb.{SmallDb}
use Rattle.proof_store.specs.Limits.{most_items}

-- the bank is full, or has an equal item
abbrev pub Refuses : List SmallDb → SmallDb → Type 0
Refuses items s = Contains items s ⊎ (most_items ≤ length items)

-- an item is put behind the others, or refused
pub data Puts (items : List SmallDb) (s : SmallDb) : List SmallDb → Type 0 where
  put : (Refuses items s → ⊥) → Puts items s (items ++ s ∷ [])
  refused : Refuses items s → Puts items s items

-- Which bytes are a store of a schema.
use Rattle.std.specs.Prelude.{◌≡◌, ◌≤◌, ℕ, true, List, length}
use Rattle.std.specs.List.{AllByRecursion, list_all}
use Rattle.qbs_base.specs.Values.{Schema, IsDatabaseOf}
use Rattle.store_parts.specs.Limits.{are_of_one_type}
use Rattle.small_dbs.specs.declared.small.SmallDb.{SmallDb}
use Rattle.proof_store.specs.Limits.{most_items, is_within}
use Rattle.proof_store.specs.Texts.{store_text}

-- what a bank holds
pub record IsStored (items : List SmallDb) : Type 0 where
  pub few : length items ≤ most_items
  pub within : list_all is_within items ≡ true

-- an item of a store of the schema
pub record IsItemOf (schema : Schema) (s : SmallDb) : Type 0 where
  pub database : IsDatabaseOf schema s.db
  pub known : list_all are_of_one_type s.entry.known ≡ true

-- the bytes are the store of these items
pub record HasStore (schema : Schema) (bytes : List ℕ) (items : List SmallDb) : Type 0 where
  pub text : bytes ≡ store_text items
  pub stored : IsStored items
  pub items_of : AllByRecursion (IsItemOf schema) items

-- The store that words may name: a file of its own, read behind the source, and told apart behind it.
use Rattle.std.specs.Prelude.{◌≡◌, ℕ, List, [], ◌∷◌, ◌++◌, codes}
use Rattle.std.specs.Fmt.{decimal}
use Rattle.std.specs.declared.option.Option.{Option}
use Rattle.std.specs.declared.option.Option.TheVariants.{Some, None}
use Rattle.qbs_base.specs.declared.status.Status.{Status}
use Rattle.qbs_base.specs.Values.{Schema}
use Rattle.text_readers.specs.Offsets.{IsOffset}
use Rattle.small_dbs.specs.declared.small.SmallDb.{SmallDb}
use Rattle.proof_store.specs.declared.fault.StoreFault.{StoreFault}
use Rattle.proof_store.specs.Grammar.{HasStore}
use Rattle.deliveries.specs.declared.plan.Plan.{Plan}
use Rattle.deliveries.specs.Limits.{most_store}
use Rattle.deliveries.specs.Plan.{Given, refusal}
use Rattle.deliveries.specs.Steps.{Ends, step, refused, IsRead, IsNotRead}

-- the names of files among which a store may be
abbrev pub store_names : Option (List ℕ) → List (List ℕ)
store_names None = []
store_names (Some name) = name ∷ []

-- it is that store
abbrev pub IsStoreName : Option (List ℕ) → List ℕ → Type 0
IsStoreName None name = ⊥
IsStoreName (Some store) name = name ≡ store

-- ---- Reading it

-- the store that words name has these bytes; there are none where they name none
abbrev pub IsStoreRead : Given → Option (List ℕ) → Option (List ℕ) → Type 0
IsStoreRead files None read = read ≡ None
IsStoreRead files (Some name) read = (bytes : List ℕ) × IsRead files name most_store bytes × (read ≡ Some bytes)

abbrev pub IsStoreUnread : Given → Option (List ℕ) → Ends
IsStoreUnread files None plan = ⊥
IsStoreUnread files (Some name) plan = IsNotRead files name most_store (codes "store") plan

abbrev pub reads_store : Given → Option (List ℕ) → (Option (List ℕ) → Ends) → Ends
reads_store files name next = step (IsStoreRead files name) (IsStoreUnread files name) next

-- ---- What it holds

-- no store of the schema has the bytes, and the offset is the length of the longest front of them with which one begins
abbrev pub BreaksStore : Schema → List ℕ → StoreFault → Type 0
BreaksStore tables bytes fault = IsOffset (HasStore tables) bytes fault.offset

abbrev pub store_refusal : StoreFault → Plan
store_refusal fault = refusal Status.Store (codes "qbs: store: at " ++ decimal fault.offset)

-- the bytes are the store of this bank, which there is none of where there are no bytes
abbrev pub IsBankOf : Schema → Option (List ℕ) → Option (List SmallDb) → Type 0
IsBankOf tables None bank = bank ≡ None
IsBankOf tables (Some bytes) bank = (items : List SmallDb) × HasStore tables bytes items × (bank ≡ Some items)

abbrev pub HasNoBank : Schema → Option (List ℕ) → Ends
HasNoBank tables None plan = ⊥
HasNoBank tables (Some bytes) plan = refused (BreaksStore tables bytes) store_refusal plan

abbrev pub has_store : Schema → Option (List ℕ) → (Option (List SmallDb) → Ends) → Ends
has_store tables store next = step (IsBankOf tables store) (HasNoBank tables store) next

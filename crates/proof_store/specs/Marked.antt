-- Which small databases of a fragment a bank refuses, and what a part of the candidates leaves in it.
use Rattle.std.specs.Prelude.{◌≡◌, ℕ, true, Bool, List, take, drop, slice_get}
use Rattle.std.specs.declared.option.Option.{Option}
use Rattle.std.specs.declared.option.Option.TheVariants.{Some, None}
use Rattle.qbs_base.specs.Values.{Schema}
use Rattle.kernel_lang.specs.Plain.{Fragment}
use Rattle.small_dbs.specs.declared.small.SmallDb.{SmallDb}
use Rattle.small_dbs.specs.Small.{small}
use Rattle.templates.specs.Numbered.{candidates_of}
use Rattle.proof_store.specs.Banks.{Refuses}
use Rattle.proof_store.specs.Gathering.{Gathers}

-- the bank refuses each small database that is marked
abbrev pub AreRefused : Schema → Fragment → List SmallDb → List Bool → Type 0
AreRefused schema f items marks = (d : ℕ) → slice_get marks d ≡ Some true → Refuses items (small schema f d)

-- the one with that number
abbrev pub item_at : List SmallDb → Option ℕ → Option SmallDb
item_at items None = None
item_at items (Some d) = slice_get items d

-- the n candidates from number k on lead from one bank to the other, which refuses what is marked
pub record ArePut (schema : Schema) (f : Fragment) (size k n : ℕ) (items end : List SmallDb) (marks : List Bool) : Type 0 where
  pub gathers : Gathers schema f (take n (drop k (candidates_of f size))) items end
  pub marked : AreRefused schema f end marks

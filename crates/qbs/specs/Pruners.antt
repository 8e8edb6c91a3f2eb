-- What is promised of the pruners of a call.
use Rattle.std.specs.Prelude.{ℕ, List, ◌⊎◌}
use Rattle.std.specs.declared.option.Option.{Option}
use Rattle.std.specs.declared.option.Option.TheVariants.{Some, None}
use Rattle.kernel_lang.specs.Plain.{Fragment}
use Rattle.kernel_lang.specs.Whole.{fragment_of}
use Rattle.query_search.specs.Asking.{Promise, OneMayDrop, AllMayKeep}
use Rattle.small_dbs.specs.declared.small.SmallDb.{SmallDb}
use Rattle.small_dbs.specs.Pruned.{OneRefutes}

-- the pruners of a call: that some may drop a candidate of a fragment, and that each may keep it
pub record May : Type 1 where
  pub drops : Fragment → List ℕ → Type 0
  pub keeps : Fragment → List ℕ → Type 0

abbrev pub may : {P : Type 0} → (P → Promise) → List P → May
may post pruners = record { drops = OneMayDrop fragment_of post pruners; keeps = AllMayKeep fragment_of post pruners }

-- a bank is one more pruner, which drops what one of its items refutes and nothing else
abbrev pub with_bank : May → Option (List SmallDb) → May
with_bank m None = m
with_bank m (Some items) = record { drops = λ f c. m.drops f c ⊎ OneRefutes f c items; keeps = λ f c. m.keeps f c × (OneRefutes f c items → ⊥) }

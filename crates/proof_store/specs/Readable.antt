-- What items of a store are, as they are read.
use Rattle.std.specs.Prelude.{◌≡◌, ◌≤◌, ℕ, suc, List, [], ◌∷◌, length}
use Rattle.qbs_base.specs.declared.columns.Table.{Table}
use Rattle.qbs_base.specs.Values.{Schema, Database}
use Rattle.kernel_lang.specs.declared.parts.Entry.{Entry}
use Rattle.small_dbs.specs.declared.small.SmallDb.{SmallDb}
use Rattle.text_readers.specs.Offsets.{Each}
use Rattle.store_readers.specs.Readable.{AreReadRows, AreReadValues, AreReadLists}
use Rattle.proof_store.specs.Limits.{most_items}

-- the tables of a schema from this number on
abbrev pub AreReadTables : ℕ → List Table → Database → Type 0
AreReadTables number [] [] = Unit {0}
AreReadTables number (t ∷ tables) (held ∷ db) = (held.0 ≡ t.name) × AreReadRows number t.columns held.1 × AreReadTables (suc number) tables db
AreReadTables _ _ _ = ⊥

abbrev pub IsReadEntry : Entry → Type 0
IsReadEntry e = AreReadValues e.values × AreReadLists e.known

abbrev pub IsReadItem : Schema → SmallDb → Type 0
IsReadItem schema s = AreReadTables 0 schema s.db × IsReadEntry s.entry

abbrev pub AreReadItems : Schema → List SmallDb → Type 0
AreReadItems schema items = (length items ≤ most_items) × Each (IsReadItem schema) items

-- Stores read from left to right, byte by byte.
use Rattle.std.specs.Prelude.{ℕ, suc, Bool, nat_eq, List, [], ◌∷◌, ◌++◌, Ok, Result, codes}
use Rattle.readers.specs.declared.fault.Fault.{Fault}
use Rattle.readers.specs.Reading.{◌>>=◌, Read, both, made, up_to, whole}
use Rattle.qbs_base.specs.declared.columns.Table.{Table}
use Rattle.qbs_base.specs.declared.scalar.Row.{Row}
use Rattle.qbs_base.specs.declared.scalar.Scalar.{Scalar}
use Rattle.qbs_base.specs.Values.{Schema, Database}
use Rattle.kernel_lang.specs.declared.parts.Entry.{Entry}
use Rattle.small_dbs.specs.declared.small.SmallDb.{SmallDb}
use Rattle.text_readers.specs.Bytes.{Reader, word_at}
use Rattle.store_readers.specs.Reading.{rows_at, entry_at, known_at}
use Rattle.proof_store.specs.Limits.{most_items}

-- the tables of a schema from this number on, each with its name
unfoldable pub tables_at : ℕ → List Table → Reader Database
tables_at number [] ts = Ok ([], ts)
tables_at number (t ∷ tables) ts = made (λ x. (t.name, x.0) ∷ x.1) (both (rows_at number t.columns) (tables_at (suc number) tables)) ts

abbrev pub entry_from : List Scalar × List (List Scalar) → Entry
entry_from x = record { values = x.0; known = x.1 }

-- entry values and known lists
unfoldable pub given_at : Reader Entry
given_at ts = made entry_from (both entry_at known_at) ts

abbrev pub item_from : Unit {0} × (Database × Entry) → SmallDb
item_from x = record { db = x.1.0; entry = x.1.1 }

unfoldable pub item_at : Schema → Reader SmallDb
item_at schema ts = made item_from (both (word_at (codes "base\n")) (both (tables_at 0 schema) given_at)) ts

abbrev pub is_end : ℕ → Bool
is_end b = nat_eq b 101

unfoldable pub items_at : Schema → Reader (List SmallDb)
items_at schema ts = up_to is_end (item_at schema) most_items ts

unfoldable pub store_at : Schema → Reader (List SmallDb)
store_at schema ts = made (λ x. x.1.0) (both (word_at (codes "qbs store 1\n")) (both (items_at schema) (word_at (codes "end\n")))) ts

unfoldable pub read_all : Schema → List ℕ → Result (List SmallDb) Fault
read_all schema ts = whole (store_at schema) ts

-- ---- what is read, put behind what is there

-- a table of these rows
abbrev pub table_put : Database → List ℕ → Read ℕ (List Row) → Read ℕ Database
table_put db name read = read >>= λ x. Ok (db ++ (name, x.0) ∷ [], x.1)

-- one item
abbrev pub item_put : List SmallDb → Read ℕ SmallDb → Read ℕ (List SmallDb)
item_put items read = read >>= λ x. Ok (items ++ x.0 ∷ [], x.1)

-- The text of a store. Each store has one, so that this function is the grammar.
use Rattle.std.specs.Prelude.{ℕ, List, ◌++◌, codes}
use Rattle.std.specs.List.{flat_map}
use Rattle.store_parts.specs.Texts.{table_text, entry_text, known_text}
use Rattle.small_dbs.specs.declared.small.SmallDb.{SmallDb}

-- tables in the order of the schema, entry values, known lists
abbrev pub item_text : SmallDb → List ℕ
item_text s = codes "base\n" ++ (flat_map table_text s.db ++ (entry_text s.entry.values ++ known_text s.entry.known))

abbrev pub store_text : List SmallDb → List ℕ
store_text items = codes "qbs store 1\n" ++ (flat_map item_text items ++ codes "end\n")

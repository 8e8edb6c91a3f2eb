-- The texts of tables, entry values and known lists in a store. Each has one text, so that these functions are the grammar.
use Rattle.std.specs.Prelude.{ℕ, List, ◌++◌, length, codes}
use Rattle.std.specs.Fmt.{decimal}
use Rattle.std.specs.List.{flat_map}
use Rattle.qbs_base.specs.declared.scalar.Row.{Row}
use Rattle.qbs_base.specs.declared.scalar.Scalar.{Scalar}
use Rattle.qbs_base.specs.Literal.{scalar_text}
use Rattle.qbs_base.specs.Tables.{NamedRows}

abbrev pub value_text : Scalar → List ℕ
value_text x = codes " " ++ scalar_text x

-- how many there are, and each behind a space
abbrev pub values_text : List Scalar → List ℕ
values_text xs = decimal (length xs) ++ (flat_map value_text xs ++ codes "\n")

abbrev pub row_text : Row → List ℕ
row_text r = codes "row" ++ (flat_map value_text r.cells ++ codes "\n")

abbrev pub rows_text : List Row → List ℕ
rows_text rows = codes "table " ++ (decimal (length rows) ++ (codes "\n" ++ flat_map row_text rows))

-- a table has no name in its text: the schema has it
abbrev pub table_text : NamedRows → List ℕ
table_text t = rows_text t.1

abbrev pub entry_text : List Scalar → List ℕ
entry_text xs = codes "entry " ++ values_text xs

abbrev pub list_text : List Scalar → List ℕ
list_text xs = codes "list " ++ values_text xs

abbrev pub known_text : List (List Scalar) → List ℕ
known_text known = codes "known " ++ (decimal (length known) ++ (codes "\n" ++ flat_map list_text known))

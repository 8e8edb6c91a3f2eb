-- How many tables and columns are written, of how many that the dump declares.
use Rattle.std.specs.Prelude.{ℕ, ◌+◌, List, [], ◌∷◌, ◌++◌, length, codes}
use Rattle.std.specs.Fmt.{decimal}
use Rattle.qbs_base.specs.declared.columns.Table.{Table}
use Rattle.dump_tables.specs.declared.table.DumpTable.{DumpTable}

abbrev pub written_columns : List Table → ℕ
written_columns [] = 0
written_columns (t ∷ ts) = length t.columns + written_columns ts

abbrev pub declared_columns : List DumpTable → ℕ
declared_columns [] = 0
declared_columns (t ∷ ts) = length t.columns + declared_columns ts

unfoldable pub line : List ℕ → ℕ → ℕ → List ℕ
line what written declared = what ++ (decimal written ++ (codes " of " ++ (decimal declared ++ codes "\n")))

abbrev pub report_of : List Table → List DumpTable → List ℕ
report_of written declared =
    line (codes "tables ") (length written) (length declared) ++ line (codes "columns ") (written_columns written) (declared_columns declared)

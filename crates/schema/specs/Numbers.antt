-- The number of a column in the table of a number.
use Rattle.std.specs.Prelude.{ℕ, List}
use Rattle.std.specs.declared.option.Option.{Option}
use Rattle.qbs_base.specs.Columns.{column_number, columns_at}
use Rattle.qbs_base.specs.Values.{Schema}

-- the number of the first column of a name, in the table of a number
abbrev pub column_number_at : Schema → ℕ → List ℕ → Option ℕ
column_number_at schema number name = column_number (columns_at schema number) name

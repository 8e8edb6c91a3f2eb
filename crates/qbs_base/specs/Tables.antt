-- A database as a list of names and rows.
use Rattle.std.specs.Prelude.{ℕ, List, [], ◌∷◌, ◌++◌, slice_get, slice_set}
use Rattle.std.specs.declared.option.Option.TheVariants.{Some, None}
use Rattle.qbs_base.specs.declared.scalar.Row.{Row}

abbrev pub NamedRows : Type 0
NamedRows = List ℕ × List Row

-- a table that isn't there has no row
abbrev pub rows_of : List NamedRows → ℕ → List Row
rows_of db number = elim (slice_get db number) [ Some table ↦ table.1 | None ↦ [] ]

-- with a row more at the end of the table with that number
abbrev pub with_row : List NamedRows → ℕ → Row → List NamedRows
with_row tables number row =
    elim (slice_get tables number) [
      | Some table ↦ slice_set tables number (table.0, table.1 ++ row ∷ [])
      | None ↦ tables
    ]

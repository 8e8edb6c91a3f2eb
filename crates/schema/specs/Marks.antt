-- What the marks of a column and the key clause of a table say.
use Rattle.std.specs.Prelude.{ℕ, true, false, ◌||◌, List, map}
use Rattle.std.specs.Str.{bytes_eq}
use Rattle.qbs_base.specs.declared.scalar.Ty.{Ty}
use Rattle.qbs_base.specs.declared.columns.Column.{Column}
use Rattle.qbs_base.specs.declared.columns.Table.{Table}
use Rattle.schema.specs.declared.draft.Mark.{Mark}
use Rattle.schema.specs.declared.draft.Mark.TheVariants.{NotNull, PrimaryKey}
use Rattle.schema.specs.declared.draft.Marks.{Marks}
use Rattle.schema.specs.declared.draft.Draft.{Draft}
use Rattle.schema.specs.Words.{is_among}

abbrev pub no_marks : Marks
no_marks = record { not_null = false; primary = false }

-- these and one more
abbrev pub with_mark : Marks → Mark → Marks
with_mark marks NotNull = record { not_null = true; primary = marks.primary }
with_mark marks PrimaryKey = record { not_null = marks.not_null; primary = true }

-- what stands behind the name of a column
abbrev pub Rest : Type 0
Rest = Ty × Marks

abbrev pub column_of : List ℕ × Rest → Column
column_of (name, (ty, marks)) = record { name = name; ty = ty; not_null = marks.not_null; primary = marks.primary }

-- a column that is among the names of a key clause is primary
abbrev pub keyed : List (List ℕ) → Column → Column
keyed names c = record { name = c.name; ty = c.ty; not_null = c.not_null; primary = c.primary || is_among bytes_eq names c.name }

-- the table that is declared
abbrev pub table_of : Draft → Table
table_of draft = record { name = draft.table.name; columns = map (keyed draft.key) draft.table.columns }

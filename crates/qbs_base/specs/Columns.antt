-- Tables and columns of a schema by name and by number.
use Rattle.std.specs.Prelude.{ℕ, zero, suc, List, [], ◌∷◌, Option, Bool, true, false, position}
use Rattle.std.specs.Str.{bytes_eq}
use Rattle.qbs_base.specs.declared.columns.Column.{Column}
use Rattle.qbs_base.specs.declared.columns.Table.{Table}
use Rattle.qbs_base.specs.declared.scalar.Ty.{Ty}
use Rattle.qbs_base.specs.declared.scalar.Ty.TheVariants as tys
use Rattle.qbs_base.specs.Values.{Schema}

-- the number of the first table of a name
abbrev pub table_number : Schema → List ℕ → Option ℕ
table_number schema name = position (λ (t : Table). bytes_eq t.name name) schema

-- the number of the first column of a name
abbrev pub column_number : List Column → List ℕ → Option ℕ
column_number columns name = position (λ (c : Column). bytes_eq c.name name) columns

-- the columns of the table with this number, none where there is no such table
abbrev pub columns_at : Schema → ℕ → List Column
columns_at [] n = []
columns_at (t ∷ ts) zero = t.columns
columns_at (t ∷ ts) (suc n) = columns_at ts n

abbrev pub same_ty : Ty → Ty → Bool
same_ty tys.Long tys.Long = true
same_ty tys.Bool tys.Bool = true
same_ty tys.Text tys.Text = true
same_ty _ _ = false

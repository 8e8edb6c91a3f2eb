-- Values of types, rows of tables, and databases of a schema.
use Rattle.std.specs.Prelude.{◌≡◌, ℕ, suc, ◌<◌, ◌^◌, ℤ, pos, negsuc, nat_lt, Bool, true, false, IsTrue, List, [], ◌∷◌, length}
use Rattle.std.specs.List.{AllByRecursion}
use Rattle.qbs_base.specs.declared.scalar.Scalar.{Scalar}
use Rattle.qbs_base.specs.declared.scalar.Scalar.TheVariants as scalars
use Rattle.qbs_base.specs.declared.scalar.Ty.{Ty}
use Rattle.qbs_base.specs.declared.scalar.Ty.TheVariants as tys
use Rattle.qbs_base.specs.declared.scalar.Kind.TheVariants as kinds
use Rattle.qbs_base.specs.declared.scalar.Row.{Row}
use Rattle.qbs_base.specs.declared.columns.Column.{Column}
use Rattle.qbs_base.specs.declared.columns.Table.{Table}
use Rattle.qbs_base.specs.Tables.{NamedRows}

-- a schema is its tables in order, a database its tables' names and rows in order
abbrev pub Schema : Type 0
Schema = List Table

abbrev pub Database : Type 0
Database = List NamedRows

-- a number of 64 bits with a sign
abbrev pub fits_long : ℤ → Bool
fits_long (pos n) = nat_lt n (2 ^ 63)
fits_long (negsuc n) = nat_lt n (2 ^ 63)

-- a scalar is of a type, a number within 64 bits
abbrev pub HasTy : Ty → Scalar → Type 0
HasTy tys.Long (scalars.Long n) = IsTrue (fits_long n)
HasTy tys.Bool (scalars.Bool b) = Unit {0}
HasTy tys.Text (scalars.Text t) = Unit {0}
HasTy _ _ = ⊥

-- cells are of the columns' types, one for each column
abbrev pub AreCells : List Column → List Scalar → Type 0
AreCells [] [] = Unit {0}
AreCells (column ∷ columns) (cell ∷ cells) = HasTy column.ty cell × AreCells columns cells
AreCells _ _ = ⊥

-- a row of the table with this number and these columns
abbrev pub IsRowOf : ℕ → List Column → Row → Type 0
IsRowOf number columns row = (row.kind ≡ kinds.Table number) × AreCells columns row.cells

-- the tables of a schema from this number on
abbrev pub AreTables : ℕ → Schema → Database → Type 0
AreTables number [] [] = Unit {0}
AreTables number (table ∷ tables) (held ∷ db) =
    (held.0 ≡ table.name)
    × (length held.1 < 2 ^ 63)
    × AllByRecursion (IsRowOf number table.columns) held.1
    × AreTables (suc number) tables db
AreTables _ _ _ = ⊥

-- a database of the schema
abbrev pub IsDatabaseOf : Schema → Database → Type 0
IsDatabaseOf schema db = AreTables 0 schema db

-- scalars are of these types, one for each
abbrev pub AreOf : List Ty → List Scalar → Type 0
AreOf [] [] = Unit {0}
AreOf (ty ∷ tys) (x ∷ xs) = HasTy ty x × AreOf tys xs
AreOf _ _ = ⊥

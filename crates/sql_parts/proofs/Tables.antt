-- The rows of a database of a schema are of the schema's types, and so are those of combinations.
use Rattle.std.proofs.Common.{◌≡◌, ℕ, pos, zero, suc, ◌+◌, true, List, [], ◌∷◌, map, slice_get, refl, subst}
use Rattle.std.specs.List.{AllByRecursion, enumerate_from}
use Rattle.std.specs.declared.option.Option.{Option}
use Rattle.std.specs.declared.option.Option.TheVariants.{Some, None}
use Rattle.qbs_base.specs.declared.columns.Column.{Column}
use Rattle.qbs_base.specs.declared.columns.Table.{Table}
use Rattle.qbs_base.specs.declared.scalar.Row.{Row}
use Rattle.qbs_base.specs.declared.scalar.Scalar.{Scalar}
use Rattle.qbs_base.specs.declared.scalar.Scalar.TheVariants as scalars
use Rattle.qbs_base.specs.declared.scalar.Ty.{Ty}
use Rattle.qbs_base.specs.declared.scalar.Ty.TheVariants as tys
use Rattle.qbs_base.specs.Values.{Schema, Database, AreCells, IsRowOf, AreTables, IsDatabaseOf}
use Rattle.qbs_base.specs.Tables.{rows_of}
use Rattle.qbs_base.proofs.Order.{all_more}
use Rattle.kernel_lang.specs.Fitting.{is_of}
use Rattle.kernel_lang.specs.Typed.{column_type}
use Rattle.kernel_lang.proofs.Listing.{some_eq}
use Rattle.sql_ast.specs.declared.tree.FromItem.{FromItem}
use Rattle.sql_ast.specs.declared.tree.SqlCol.{SqlCol}
use Rattle.sql_ast.specs.declared.tree.SqlColumn.{SqlColumn}
use Rattle.sql_ast.specs.declared.tree.SqlColumn.TheVariants as columns
use Rattle.sql_ast.specs.Meaning.{Place, Combination, nth, cell_of, column_of, places_of, product}
use Rattle.sql_ast.specs.Names.{◌>>=◌}
use Rattle.sql_ast.specs.Typing.{ty_of_column, ty_of_col}
use Rattle.sql_ast.proofs.Combinations.{all_map, all_flat_map}
use Rattle.sql_parts.specs.Scopes.{columns_of}
use Rattle.sql_parts.proofs.Rows.{IsScalarOf, cell_typed}

abbrev pub IsRowAt : Schema → ℕ → Row → Type 0
IsRowAt schema n row = AreCells (columns_of (slice_get schema n)) row.cells

rows_typed : (number : ℕ) (schema : Schema) (db : Database) → AreTables number schema db → (n : ℕ) → AllByRecursion (IsRowAt schema n) (rows_of db n)
rows_typed number [] [] h n = tt
rows_typed number [] (held ∷ db) h n = absurd h
rows_typed number (table ∷ schema) [] h n = absurd h
rows_typed number (table ∷ schema) (held ∷ db) h zero = all_more (IsRowOf number table.columns) (IsRowAt (table ∷ schema) 0) (λ r k. k.1) held.1 h.2
rows_typed number (table ∷ schema) (held ∷ db) h (suc n) = rows_typed (suc number) schema db h.3 n

-- each place has a row of its item's table
abbrev pub TypedFor : Schema → List FromItem → Combination → Type 0
TypedFor schema [] [] = Unit {0}
TypedFor schema (from ∷ froms) (b ∷ c) = IsRowAt schema from.table b.1 × TypedFor schema froms c
TypedFor schema _ _ = ⊥

places_typed : (schema : Schema) (n : ℕ) (m : ℕ) (rows : List Row) → AllByRecursion (IsRowAt schema n) rows → AllByRecursion (λ (b : Place). IsRowAt schema n b.1) (enumerate_from m rows)
places_typed schema n m [] h = tt
places_typed schema n m (r ∷ rows) h = (h.0, places_typed schema n (m + 1) rows h.1)

pub all_places : (schema : Schema) (db : Database) → IsDatabaseOf schema db → (from : FromItem) → AllByRecursion (λ (b : Place). IsRowAt schema from.table b.1) (places_of db from)
all_places schema db h from = places_typed schema from.table 0 (rows_of db from.table) (rows_typed 0 schema db h from.table)

pub product_typed : (schema : Schema) (db : Database) → IsDatabaseOf schema db → (froms : List FromItem) → AllByRecursion (TypedFor schema froms) (product db froms)
product_typed schema db h [] = (tt, tt)
product_typed schema db h (from ∷ froms) =
    all_flat_map (λ (b : Place). IsRowAt schema from.table b.1) (TypedFor schema (from ∷ froms)) (λ b. map (λ c. b ∷ c) (product db froms))
    (λ b k. all_map (TypedFor schema froms) (TypedFor schema (from ∷ froms)) (λ c. b ∷ c) (λ c l. (k, l)) (product db froms) (product_typed schema db h froms))
    (places_of db from) (all_places schema db h from)

-- ---- columns by their types

abbrev column_ty : Option Column → Option Ty
column_ty o = o >>= λ column. Some column.ty

same_ty : (o : Option Column) (ty : Ty) → (o >>= λ column. Some column.ty) ≡ Some ty → column_type o ≡ Some ty
same_ty None ty e = absurd cc
same_ty (Some column) ty e = e

place_has : (table : Table) (place : Place) (column : SqlColumn) (ty : Ty) → AreCells table.columns place.1.cells → ty_of_column table.columns column ≡ Some ty → IsScalarOf ty (cell_of place column)
place_has table place columns.Pos ty h e = record { scalar = scalars.Long (pos place.0); is = refl; of = subst (λ t. is_of t (Some (scalars.Long (pos place.0))) ≡ true) (some_eq tys.Long ty e) refl }
place_has table place (columns.Named name number) ty h e = cell_typed table.columns place.1.cells number ty h (same_ty (slice_get table.columns number) ty e)

abbrev col_in : Option Place → SqlColumn → Option Scalar
col_in o column = elim o as (λ _. Option Scalar) [ Some place ↦ cell_of place column | None ↦ None ]

from_has : (schema : Schema) (from : FromItem) (place : Place) (column : SqlColumn) (ty : Ty) → IsRowAt schema from.table place.1 → (o : Option Table) → slice_get schema from.table ≡ o → (o >>= λ table. ty_of_column table.columns column) ≡ Some ty → IsScalarOf ty (cell_of place column)
from_has schema from place column ty h None is e = absurd cc
from_has schema from place column ty h (Some table) is e = place_has table place column ty (subst (λ o. AreCells (columns_of o) place.1.cells) is h) e

at_place : (schema : Schema) (froms : List FromItem) (c : Combination) (i : ℕ) (column : SqlColumn) (ty : Ty) → TypedFor schema froms c
    → (slice_get froms i >>= λ from. slice_get schema from.table >>= λ table. ty_of_column table.columns column) ≡ Some ty → IsScalarOf ty (col_in (slice_get c i) column)
at_place schema [] c i column ty h e = absurd cc
at_place schema (from ∷ froms) [] i column ty h e = absurd h
at_place schema (from ∷ froms) (b ∷ c) zero column ty h e = from_has schema from b column ty h.0 (slice_get schema from.table) refl e
at_place schema (from ∷ froms) (b ∷ c) (suc i) column ty h e = at_place schema froms c i column ty h.1 e

-- a column of a combination is a scalar of its type
pub col_typed : (schema : Schema) (froms : List FromItem) (c : Combination) (col : SqlCol) (ty : Ty) → TypedFor schema froms c → ty_of_col schema froms col ≡ Some ty → IsScalarOf ty (column_of c col)
col_typed schema froms c col ty h e = go col.item e
  where
    go : (n : ℕ) → (nth froms n >>= λ from. slice_get schema from.table >>= λ table. ty_of_column table.columns col.column) ≡ Some ty → IsScalarOf ty (col_in (nth c n) col.column)
    go zero e = absurd cc
    go (suc i) e = at_place schema froms c i col.column ty h e

-- The columns of a combination are those of the rows of its loops, and of the types of the schema.
use Rattle.std.proofs.Common.{◌≡◌, ℕ, zero, suc, true, List, [], ◌∷◌, slice_get, refl, sym, ap, ◌∙◌, subst}
use Rattle.std.specs.declared.option.Option.{Option}
use Rattle.std.specs.declared.option.Option.TheVariants.{Some, None}
use Rattle.qbs_base.specs.declared.columns.Column.{Column}
use Rattle.qbs_base.specs.declared.columns.Table.{Table}
use Rattle.qbs_base.specs.declared.scalar.Row.{Row}
use Rattle.qbs_base.specs.declared.scalar.Scalar.{Scalar}
use Rattle.qbs_base.specs.declared.scalar.Scalar.TheVariants as scalars
use Rattle.qbs_base.specs.declared.scalar.Ty.{Ty}
use Rattle.qbs_base.specs.declared.scalar.Ty.TheVariants as tys
use Rattle.qbs_base.specs.Values.{Schema, HasTy, AreCells, AreOf}
use Rattle.tor_terms.specs.declared.term.Operand.{Operand}
use Rattle.tor_terms.specs.declared.term.Operand.TheVariants as operands
use Rattle.tor_terms.specs.Truth.{World, operand_at, has_loop, operand_within}
use Rattle.kernel_lang.specs.declared.parts.ListDef.{ListDef}
use Rattle.kernel_lang.specs.Fitting.{is_of}
use Rattle.kernel_lang.specs.Plain.{Fragment}
use Rattle.kernel_lang.specs.Typed.{column_type, table_column, list_column, place_type, scalar_type, operand_type}
use Rattle.kernel_lang.proofs.Listing.{some_eq}
use Rattle.sql_ast.specs.declared.tree.SqlColumn.TheVariants as columns
use Rattle.sql_ast.specs.Meaning.{Place, Combination, nth, cell_of, column_of, operand_of, row_of, plain_row}
use Rattle.sql_parts.specs.Scopes.{Ground, Scope, number_in, def_of, list_of, columns_of, name_of, column}
use Rattle.sql_parts.specs.Emitted.{side}

-- a scalar of the variant of a type
pub record IsScalarOf (ty : Ty) (o : Option Scalar) : Type 0 where
  pub scalar : Scalar
  pub is : o ≡ Some scalar
  pub of : is_of ty (Some scalar) ≡ true

abbrev pub columns_at : Ground → ℕ → List Column
columns_at g j = columns_of (slice_get g.schema (list_of g j).table)

-- the rows of these loops are rows of their tables
abbrev pub RowsTyped : Ground → List ℕ → (ℕ → Row) → Type 0
RowsTyped g js rows = (j : ℕ) → has_loop js j ≡ true → AreCells (columns_at g j) (rows j).cells

-- the combination has the rows of these loops
abbrev pub Sees : Scope → Combination → List ℕ → (ℕ → Row) → Type 0
Sees s c js rows = (j : ℕ) → has_loop js j ≡ true → row_of c (number_in s.loops j) ≡ rows j

cell_is : (o : Option Place) (name : List ℕ) (k : ℕ)
    → elim o as (λ _. Option Scalar) [ Some place ↦ cell_of place (columns.Named name k) | None ↦ None ] ≡ slice_get (elim o as (λ _. Row) [ Some place ↦ place.1 | None ↦ plain_row None ]).cells k
cell_is None name k = refl
cell_is (Some place) name k = refl

pub column_is : (g : Ground) (c : Combination) (n j k : ℕ) → column_of c (column g n j k) ≡ slice_get (row_of c n).cells k
column_is g c n j k = cell_is (nth c n) (name_of g j k) k

pub side_is : (g : Ground) (s : Scope) (w : World) (params : List Scalar) → ((k : ℕ) → w.entries k ≡ slice_get params k) → (c : Combination) (js : List ℕ) (rows : ℕ → Row) → Sees s c js rows → (a : Operand) → operand_within js a ≡ true
    → operand_of params c (side g s a) ≡ operand_at w rows a
side_is g s w params entries c js rows sees (operands.Field j k) h = column_is g c (number_in s.loops j) j k ∙ ap (λ (r : Row). slice_get r.cells k) (sees j h)
side_is g s w params entries c js rows sees (operands.Entry k) h = sym (entries k)
side_is g s w params entries c js rows sees (operands.Lit x) h = refl

-- ---- types

has_is_of : (ty : Ty) (x : Scalar) → HasTy ty x → is_of ty (Some x) ≡ true
has_is_of tys.Long (scalars.Long n) h = refl
has_is_of tys.Bool (scalars.Bool n) h = refl
has_is_of tys.Text (scalars.Text n) h = refl
has_is_of tys.Long (scalars.Bool n) h = absurd h
has_is_of tys.Long (scalars.Text n) h = absurd h
has_is_of tys.Bool (scalars.Long n) h = absurd h
has_is_of tys.Bool (scalars.Text n) h = absurd h
has_is_of tys.Text (scalars.Long n) h = absurd h
has_is_of tys.Text (scalars.Bool n) h = absurd h

pub scalar_of : (x : Scalar) → is_of (scalar_type x) (Some x) ≡ true
scalar_of (scalars.Long n) = refl
scalar_of (scalars.Bool n) = refl
scalar_of (scalars.Text n) = refl

pub cell_typed : (columns : List Column) (cells : List Scalar) (k : ℕ) (ty : Ty) → AreCells columns cells → column_type (slice_get columns k) ≡ Some ty → IsScalarOf ty (slice_get cells k)
cell_typed [] cells k ty h e = absurd cc
cell_typed (column ∷ columns) [] k ty h e = absurd h
cell_typed (column ∷ columns) (cell ∷ cells) zero ty h e = record { scalar = cell; is = refl; of = subst (λ t. is_of t (Some cell) ≡ true) (some_eq column.ty ty e) (has_is_of column.ty cell h.0) }
cell_typed (column ∷ columns) (cell ∷ cells) (suc k) ty h e = cell_typed columns cells k ty h.1 e

pub entry_typed : (types : List Ty) (values : List Scalar) (k : ℕ) (ty : Ty) → AreOf types values → slice_get types k ≡ Some ty → IsScalarOf ty (slice_get values k)
entry_typed [] values k ty h e = absurd cc
entry_typed (t ∷ types) [] k ty h e = absurd h
entry_typed (t ∷ types) (x ∷ values) zero ty h e = record { scalar = x; is = refl; of = subst (λ t. is_of t (Some x) ≡ true) (some_eq t ty e) (has_is_of t x h.0) }
entry_typed (t ∷ types) (x ∷ values) (suc k) ty h e = entry_typed types values k ty h.1 e

table_typed : (o : Option Table) (k : ℕ) (ty : Ty) → table_column o k ≡ Some ty → column_type (slice_get (columns_of o) k) ≡ Some ty
table_typed None k ty e = absurd cc
table_typed (Some table) k ty e = e

list_typed : (schema : Schema) (o : Option ListDef) (k : ℕ) (ty : Ty) → list_column schema o k ≡ Some ty → column_type (slice_get (columns_of (slice_get schema (def_of o).table)) k) ≡ Some ty
list_typed schema None k ty e = absurd cc
list_typed schema (Some d) k ty e = table_typed (slice_get schema d.table) k ty e

-- the column of a place that is named for a loop's list
pub place_typed : (g : Ground) (f : Fragment) → g.lists ≡ f.lists → (j k : ℕ) (ty : Ty) → place_type g.schema f (j, k) ≡ Some ty → column_type (slice_get (columns_at g j) k) ≡ Some ty
place_typed g f e j k ty h = list_typed g.schema (slice_get g.lists j) k ty (ap (λ (lists : List ListDef). list_column g.schema (slice_get lists j) k) e ∙ h)

-- an operand at such rows is a scalar of its type
pub operand_typed : (g : Ground) (f : Fragment) → g.lists ≡ f.lists → (w : World) (values : List Scalar) → ((k : ℕ) → w.entries k ≡ slice_get values k) → AreOf f.entries values → (js : List ℕ) (rows : ℕ → Row) → RowsTyped g js rows
    → (a : Operand) (ty : Ty) → operand_within js a ≡ true → operand_type g.schema f a ≡ Some ty → IsScalarOf ty (operand_at w rows a)
operand_typed g f lists w values entries of js rows typed (operands.Field j k) ty h e = cell_typed (columns_at g j) (rows j).cells k ty (typed j h) (place_typed g f lists j k ty e)
operand_typed g f lists w values entries of js rows typed (operands.Entry k) ty h e = subst (IsScalarOf ty) (sym (entries k)) (entry_typed f.entries values k ty of e)
operand_typed g f lists w values entries of js rows typed (operands.Lit x) ty h e = record { scalar = x; is = refl; of = subst (λ t. is_of t (Some x) ≡ true) (some_eq (scalar_type x) ty e) (scalar_of x) }

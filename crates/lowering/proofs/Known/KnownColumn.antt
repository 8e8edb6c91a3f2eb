-- What the type of a query of one column says: it answers a list of scalars of that column, also where it is grouped.
use Rattle.std.proofs.Common.{◌≡◌, ℕ, Bool, true, not, ◌&&◌, List, length, Option, Some, None, refl, sym, ap, ◌∙◌, nat_eq, bytes_eq, slice_get}
use Rattle.std.specs.List.{list_any}
use Rattle.std.specs.Option.{option_map}
use Rattle.std.proofs.lemmas.Bool.{and_parts, eqb-true}
use Rattle.qbs_base.specs.declared.columns.Column.{Column}
use Rattle.qbs_base.specs.declared.scalar.Ty.{Ty}
use Rattle.qbs_base.specs.Values.{Schema}
use Rattle.sql_ast.specs.declared.tree.FromItem.{FromItem}
use Rattle.sql_ast.specs.declared.tree.SqlCol.{SqlCol}
use Rattle.sql_ast.specs.declared.tree.SqlColumn.{SqlColumn}
use Rattle.sql_ast.specs.declared.tree.SqlColumn.TheVariants as columns
use Rattle.sql_ast.specs.declared.tree.SqlItem.{SqlItem}
use Rattle.sql_ast.specs.declared.tree.SqlItem.TheVariants as items
use Rattle.sql_ast.specs.Keys.{same_column, same_col, takes_column, is_least_position, groups_by}
use Rattle.sql_ast.specs.Meaning.{nth}
use Rattle.sql_ast.specs.Names.{◌>>=◌}
use Rattle.sql_ast.specs.Tree.{PlainListing, PlainQuery, Listing, Number, Truth}
use Rattle.sql_ast.specs.Typing.{ty_of_column, ty_of_col, group_fits}
use Rattle.java_mean.specs.declared.types.JavaType.TheVariants.{Listed}
use Rattle.java_mean.specs.declared.types.Single.{Single}
use Rattle.java_mean.specs.declared.types.Single.TheVariants.{ScalarOf}
use Rattle.java_mean.specs.Asks.{item_type, element_type, type_of_found}
use Rattle.java_mean.specs.Types.{made_of}
use Rattle.java_mean.specs.Typing.{QueryType}
use Rattle.java_loops.specs.Kernel.KernelConditions.{is_column_item, is_column_query}
use Rattle.loop_text.specs.Statements.Setting.{is_found}

-- ---- Columns of one number

same_column-type : (held : List Column) (a b : SqlColumn) → same_column a b ≡ true → ty_of_column held a ≡ ty_of_column held b
same_column-type held columns.Pos columns.Pos e = refl
same_column-type held (columns.Named name number) (columns.Named other place) e = ap (λ k. ty_of_column held (columns.Named name k)) (eqb-true number place (and_parts (bytes_eq name other) (nat_eq number place) e).1)
same_column-type held columns.Pos (columns.Named name number) e = absurd cc
same_column-type held (columns.Named name number) columns.Pos e = absurd cc

abbrev type_there : Schema → List FromItem → ℕ → SqlColumn → Option Ty
type_there schema froms n column = nth froms n >>= λ from. slice_get schema from.table >>= λ table. ty_of_column table.columns column

same_type_there : (schema : Schema) (froms : List FromItem) (n : ℕ) (a b : SqlColumn) → same_column a b ≡ true → type_there schema froms n a ≡ type_there schema froms n b
same_type_there schema froms n a b e = λ i. nth froms n >>= λ from. slice_get schema from.table >>= λ table. same_column-type table.columns a b e i

same_col-type : (schema : Schema) (froms : List FromItem) (a b : SqlCol) → same_col a b ≡ true → ty_of_col schema froms a ≡ ty_of_col schema froms b
same_col-type schema froms a b e =
    let two = and_parts (nat_eq a.item b.item) (same_column a.column b.column) e in
    ap (λ n. type_there schema froms n a.column) (eqb-true a.item b.item two.0) ∙ same_type_there schema froms b.item a.column b.column two.1

-- ---- Elements

-- the column of a grouped query is the one that it is grouped by
grouped_taken : (q : PlainListing) (col other : SqlCol) → q.item ≡ items.Column col → groups_by q other ≡ true → same_col col other ≡ true
grouped_taken q col other item e =
    let two = and_parts (nat_eq (length q.from) 1 && takes_column other q.item) (is_least_position q.keys) e in
    ap (takes_column other) (sym item) ∙ (and_parts (nat_eq (length q.from) 1) (takes_column other q.item) two.0).1

column_single : (o : Option Ty) (a : Single) → option_map ScalarOf o ≡ Some a → (ty : Ty) × (a ≡ ScalarOf ty) × (o ≡ Some ty)
column_single None a h = absurd cc
column_single (Some ty) a h = (ty, let l : Some (ScalarOf ty) ≡ Some a = h in cc, refl)

element_column : (schema : Schema) (q : PlainListing) (group : Option SqlCol) (col : SqlCol) (a : Single) → elim group as (λ _. Bool) [ Some other ↦ groups_by q other | None ↦ not (list_any (λ key. key.least) q.keys) ] ≡ true → q.item ≡ items.Column col → element_type schema q group ≡ Some a → (ty : Ty) × (a ≡ ScalarOf ty) × (ty_of_col schema q.from col ≡ Some ty)
element_column schema q None col a groups item h = column_single (ty_of_col schema q.from col) a (sym (ap (item_type schema q.from) item) ∙ h)
element_column schema q (Some other) col a groups item h = column_single (ty_of_col schema q.from col) a (ap (λ o. option_map ScalarOf o) (same_col-type schema q.from col other (grouped_taken q col other item groups)) ∙ h)

-- ---- Queries

column_item : (item : SqlItem) → is_column_item item ≡ true → (col : SqlCol) × (item ≡ items.Column col)
column_item (items.Column col) h = (col, refl)
column_item (items.Whole n) h = absurd cc

not_found : {A : Type 0} (o : Option A) → not (is_found o) ≡ true → o ≡ None
not_found None e = refl
not_found (Some x) e = absurd cc

listed_type : (o : Option Single) (params : List Ty) (t : QueryType) → option_map (λ k. record { params = params; answer = k }) (made_of Listed o) ≡ Some t → (a : Single) × (o ≡ Some a) × (t.params ≡ params) × (t.answer ≡ Listed a)
listed_type None params t h = absurd cc
listed_type (Some a) params t h =
    let plain : QueryType = record { params = params; answer = Listed a } in
    let same : plain ≡ t = (let l : Some plain ≡ Some t = h in cc) in
    (a, refl, sym (ap (λ (z : QueryType). z.params) same), sym (ap (λ (z : QueryType). z.answer) same))

-- a query of one column without LIMIT, of this type
pub record IsColumnQuery (schema : Schema) (o : Option PlainQuery) (t : QueryType) : Type 0 where
  pub listing : PlainListing
  pub col : SqlCol
  pub ty : Ty
  pub is : o ≡ Some (Listing listing)
  pub item : listing.item ≡ items.Column col
  pub whole : listing.limit ≡ None
  pub params : t.params ≡ listing.params
  pub answer : t.answer ≡ Listed (ScalarOf ty)
  pub column : ty_of_col schema listing.from col ≡ Some ty

pub column_query : (schema : Schema) (o : Option PlainQuery) (t : QueryType) → is_column_query o ≡ true → type_of_found schema o ≡ Some t → ((q : PlainQuery) → o ≡ Some q → group_fits q ≡ true) → IsColumnQuery schema o t
column_query schema None t c h groups = absurd cc
column_query schema (Some (Listing q)) t c h groups =
    let two = and_parts (is_column_item q.item) (not (is_found q.limit)) c in
    let item = column_item q.item two.0 in
    let type = listed_type (element_type schema q q.group) q.params t h in
    let column = element_column schema q q.group item.0 type.0 (groups (Listing q) refl) item.1 type.1 in
    record { listing = q; col = item.0; ty = column.0; is = refl; item = item.1; whole = not_found q.limit two.1; params = type.2; answer = type.3 ∙ ap Listed column.1; column = column.2 }
column_query schema (Some (Number q)) t c h groups = absurd cc
column_query schema (Some (Truth q)) t c h groups = absurd cc

-- The queries of a schema: plain queries that some text has, said of the plain query alone.
use Rattle.std.specs.Prelude.{◌≡◌, ℕ, ◌<◌, ◌≤◌, ◌^◌, ℤ, pos, true, false, ◌&&◌, List, [], ◌++◌, length, slice_get}
use Rattle.std.specs.List.{AllByRecursion}
use Rattle.std.specs.declared.option.Option.{Option}
use Rattle.std.specs.declared.option.Option.TheVariants.{Some, None}
use Rattle.qbs_base.specs.declared.columns.Table.{Table}
use Rattle.qbs_base.specs.declared.scalar.Scalar.{Scalar}
use Rattle.qbs_base.specs.declared.scalar.Scalar.TheVariants as scalars
use Rattle.qbs_base.specs.declared.scalar.Ty.{Ty}
use Rattle.qbs_base.specs.Columns.{table_number}
use Rattle.qbs_base.specs.Values.{Schema, fits_long}
use Rattle.sql_ast.specs.declared.tree.FromItem.{FromItem}
use Rattle.sql_ast.specs.declared.tree.NumberKind.{NumberKind}
use Rattle.sql_ast.specs.declared.tree.NumberKind.TheVariants as kinds
use Rattle.sql_ast.specs.declared.tree.SqlCol.{SqlCol}
use Rattle.sql_ast.specs.declared.tree.SqlItem.{SqlItem}
use Rattle.sql_ast.specs.declared.tree.SqlItem.TheVariants as items
use Rattle.sql_ast.specs.declared.tree.SqlKey.{SqlKey}
use Rattle.sql_ast.specs.declared.tree.SqlOpnd.{SqlOpnd}
use Rattle.sql_ast.specs.declared.tree.SqlOpnd.TheVariants as opnds
use Rattle.sql_ast.specs.Canonical.{column_text}
use Rattle.sql_ast.specs.Meaning.{nth}
use Rattle.sql_ast.specs.Names.{column_named}
use Rattle.sql_ast.specs.Tokens.{is_name, is_free}
use Rattle.sql_ast.specs.Tree.{Condition, Both, Either, Not, Compare, Bare, Exists, Within, Filter, Everything, Where, PlainListing, PlainNumber, PlainTruth, PlainQuery, Listing, Number, Truth}
use Rattle.sql_ast.specs.Typing.{types_fit, group_fits, params_of}

-- a name that a query may use
abbrev pub IsWord : List ℕ → Type 0
IsWord name = (is_name name ≡ true) × (is_free name ≡ true)

-- the item's table has its name and its number
pub record IsFromItem (schema : Schema) (from : FromItem) : Type 0 where
  pub table : Table
  pub number : table_number schema from.name ≡ Some from.table
  pub held : slice_get schema from.table ≡ Some table
  pub word : IsWord from.name

-- the items of one FROM: there is one at least, and all with those around have numbers of 64 bits
pub record AreItems (schema : Schema) (around own : List FromItem) : Type 0 where
  pub some : 0 < length own
  pub few : length (around ++ own) < 2 ^ 64
  pub each : AllByRecursion (IsFromItem schema) own

-- the column of the item with its number, which has its name and its number
pub record IsColOf (schema : Schema) (froms : List FromItem) (col : SqlCol) : Type 0 where
  pub from : FromItem
  pub item : nth froms col.item ≡ Some from
  pub table : Table
  pub held : slice_get schema from.table ≡ Some table
  pub column : column_named table.columns (column_text col.column) ≡ Some col.column
  pub word : IsWord (column_text col.column)

abbrev pub FitsScalar : Scalar → Type 0
FitsScalar (scalars.Long n) = fits_long n ≡ true
FitsScalar (scalars.Bool b) = Unit {0}
FitsScalar (scalars.Text text) = Unit {0}

abbrev pub IsOpndOf : Schema → List FromItem → SqlOpnd → Type 0
IsOpndOf schema froms (opnds.Column col) = IsColOf schema froms col
IsOpndOf schema froms (opnds.Lit scalar) = FitsScalar scalar
IsOpndOf schema froms (opnds.Param n) = (1 ≤ n) × (n ≤ 9)

abbrev mutual
  pub IsConditionOf : Schema → List FromItem → Condition → Type 0
  IsConditionOf schema froms (Both a b) = IsConditionOf schema froms a × IsConditionOf schema froms b
  IsConditionOf schema froms (Either a b) = IsConditionOf schema froms a × IsConditionOf schema froms b
  IsConditionOf schema froms (Not a) = IsConditionOf schema froms a
  IsConditionOf schema froms (Compare cmp a b) = IsOpndOf schema froms a × IsOpndOf schema froms b
  IsConditionOf schema froms (Bare col) = IsColOf schema froms col
  IsConditionOf schema froms (Exists from filter_) = AreItems schema froms from × IsFilterOf schema (froms ++ from) filter_
  IsConditionOf schema froms (Within opnd negated col from filter_) = IsOpndOf schema froms opnd × AreItems schema froms from × IsColOf schema (froms ++ from) col × IsFilterOf schema (froms ++ from) filter_

  pub IsFilterOf : Schema → List FromItem → Filter → Type 0
  IsFilterOf schema froms Everything = Unit {0}
  IsFilterOf schema froms (Where a) = IsConditionOf schema froms a

-- a FROM item's row, or a column
pub record IsWholeOf (froms : List FromItem) (n : ℕ) : Type 0 where
  pub from : FromItem
  pub item : nth froms n ≡ Some from

abbrev pub IsItemOf : Schema → List FromItem → SqlItem → Type 0
IsItemOf schema froms (items.Whole n) = IsWholeOf froms n
IsItemOf schema froms (items.Column col) = IsColOf schema froms col

abbrev pub IsGroupOf : Schema → List FromItem → Option SqlCol → Type 0
IsGroupOf schema froms None = Unit {0}
IsGroupOf schema froms (Some col) = IsColOf schema froms col

-- no key is both MIN and down
abbrev pub IsKeyOf : Schema → List FromItem → SqlKey → Type 0
IsKeyOf schema froms key = IsColOf schema froms key.col × ((key.least && key.down) ≡ false)

abbrev pub IsLimit : Option ℕ → Type 0
IsLimit None = Unit {0}
IsLimit (Some n) = fits_long (pos n) ≡ true

abbrev pub IsTotalOf : Schema → List FromItem → SqlCol → ℤ → Type 0
IsTotalOf schema froms col other = IsColOf schema froms col × (fits_long other ≡ true)

-- COUNT and SUM have one FROM item
abbrev pub IsKindOf : Schema → List FromItem → NumberKind → Type 0
IsKindOf schema froms kinds.Count = length froms ≡ 1
IsKindOf schema froms (kinds.Sum col other) = (length froms ≡ 1) × IsTotalOf schema froms col other
IsKindOf schema froms (kinds.Max col other) = IsTotalOf schema froms col other
IsKindOf schema froms (kinds.Min col other) = IsTotalOf schema froms col other

pub record IsListingOf (schema : Schema) (q : PlainListing) : Type 0 where
  pub items : AreItems schema [] q.from
  pub item : IsItemOf schema q.from q.item
  pub filter_ : IsFilterOf schema q.from q.filter
  pub group : IsGroupOf schema q.from q.group
  pub keys : AllByRecursion (IsKeyOf schema q.from) q.keys
  pub limit : IsLimit q.limit

pub record IsNumberOf (schema : Schema) (q : PlainNumber) : Type 0 where
  pub items : AreItems schema [] q.from
  pub kind : IsKindOf schema q.from q.kind
  pub filter_ : IsFilterOf schema q.from q.filter

pub record IsTruthOf (schema : Schema) (q : PlainTruth) : Type 0 where
  pub items : AreItems schema [] q.from
  pub filter_ : IsFilterOf schema q.from q.filter

abbrev pub HasNames : Schema → PlainQuery → Type 0
HasNames schema (Listing q) = IsListingOf schema q
HasNames schema (Number q) = IsNumberOf schema q
HasNames schema (Truth q) = IsTruthOf schema q

abbrev pub params_in : PlainQuery → List Ty
params_in (Listing q) = q.params
params_in (Number q) = q.params
params_in (Truth q) = q.params

-- its names are known, and its types, group and parameters fit
pub record IsQueryOf (schema : Schema) (q : PlainQuery) : Type 0 where
  pub names : HasNames schema q
  pub types : types_fit schema q ≡ true
  pub groups : group_fits q ≡ true
  pub params : params_of schema q ≡ Some (params_in q)

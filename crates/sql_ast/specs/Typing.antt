-- The types of a query's columns and parameters, and whether they fit.
use Rattle.std.specs.Prelude.{ℕ, zero, suc, max, Bool, true, false, not, ◌&&◌, if◌then◌else◌, nat_eq, List, [], ◌∷◌, ◌++◌, slice_get}
use Rattle.std.specs.List.{list_all, list_any}
use Rattle.std.specs.declared.option.Option.{Option}
use Rattle.std.specs.declared.option.Option.TheVariants.{Some, None}
use Rattle.qbs_base.specs.declared.columns.Column.{Column}
use Rattle.qbs_base.specs.declared.scalar.Scalar.{Scalar}
use Rattle.qbs_base.specs.declared.scalar.Scalar.TheVariants as scalars
use Rattle.qbs_base.specs.declared.scalar.Ty.{Ty}
use Rattle.qbs_base.specs.declared.scalar.Ty.TheVariants as tys
use Rattle.qbs_base.specs.Columns.{same_ty}
use Rattle.qbs_base.specs.Values.{Schema}
use Rattle.sql_ast.specs.declared.tree.Cmp.{Cmp}
use Rattle.sql_ast.specs.declared.tree.Cmp.TheVariants as tests
use Rattle.sql_ast.specs.declared.tree.FromItem.{FromItem}
use Rattle.sql_ast.specs.declared.tree.NumberKind.{NumberKind}
use Rattle.sql_ast.specs.declared.tree.NumberKind.TheVariants as kinds
use Rattle.sql_ast.specs.declared.tree.SqlCol.{SqlCol}
use Rattle.sql_ast.specs.declared.tree.SqlColumn.{SqlColumn}
use Rattle.sql_ast.specs.declared.tree.SqlColumn.TheVariants as columns
use Rattle.sql_ast.specs.declared.tree.SqlOpnd.{SqlOpnd}
use Rattle.sql_ast.specs.declared.tree.SqlOpnd.TheVariants as opnds
use Rattle.sql_ast.specs.Keys.{groups_by}
use Rattle.sql_ast.specs.Meaning.{nth}
use Rattle.sql_ast.specs.Names.{◌>>=◌}
use Rattle.sql_ast.specs.Tree.{Condition, Both, Either, Not, Compare, Bare, Exists, Within, Filter, Everything, Where, PlainListing, PlainQuery, Listing, Number, Truth}

abbrev pub ty_of_scalar : Scalar → Ty
ty_of_scalar (scalars.Long n) = tys.Long
ty_of_scalar (scalars.Bool b) = tys.Bool
ty_of_scalar (scalars.Text text) = tys.Text

abbrev pub ty_of_column : List Column → SqlColumn → Option Ty
ty_of_column held columns.Pos = Some tys.Long
ty_of_column held (columns.Named name number) = slice_get held number >>= λ column. Some column.ty

-- the type of a column of these FROM items
abbrev pub ty_of_col : Schema → List FromItem → SqlCol → Option Ty
ty_of_col schema froms col = nth froms col.item >>= λ from. slice_get schema from.table >>= λ table. ty_of_column table.columns col.column

-- the type of the column, where the first operand is that parameter and the second a column
abbrev pub ty_beside : Schema → List FromItem → ℕ → SqlOpnd → SqlOpnd → List Ty
ty_beside schema froms n (opnds.Param m) (opnds.Column col) = if nat_eq m n then elim (ty_of_col schema froms col) as (λ _. List Ty) [ Some ty ↦ ty ∷ [] | None ↦ [] ] else []
ty_beside schema froms n _ _ = []

-- the types of the columns that a parameter is compared with
abbrev mutual
  pub tys_beside : Schema → List FromItem → ℕ → Condition → List Ty
  tys_beside schema froms n (Both a b) = tys_beside schema froms n a ++ tys_beside schema froms n b
  tys_beside schema froms n (Either a b) = tys_beside schema froms n a ++ tys_beside schema froms n b
  tys_beside schema froms n (Not a) = tys_beside schema froms n a
  tys_beside schema froms n (Compare cmp a b) = ty_beside schema froms n a b ++ ty_beside schema froms n b a
  tys_beside schema froms n (Bare col) = []
  tys_beside schema froms n (Exists from filter_) = filter_tys schema (froms ++ from) n filter_
  tys_beside schema froms n (Within opnd negated col from filter_) = ty_beside schema (froms ++ from) n opnd (opnds.Column col) ++ filter_tys schema (froms ++ from) n filter_

  pub filter_tys : Schema → List FromItem → ℕ → Filter → List Ty
  filter_tys schema froms n Everything = []
  filter_tys schema froms n (Where a) = tys_beside schema froms n a

-- the one type of them all
abbrev pub one_ty : List Ty → Option Ty
one_ty [] = None
one_ty (ty ∷ tys) = if list_all (same_ty ty) tys then Some ty else None

-- a parameter's type, where the columns that it is compared with have one
abbrev pub ty_of_param : Schema → List FromItem → Filter → ℕ → Option Ty
ty_of_param schema froms filter_ n = one_ty (filter_tys schema froms n filter_)

abbrev pub orders : Cmp → Bool
orders tests.Eq = false
orders tests.Ne = false
orders tests.Lt = true
orders tests.Le = true
orders tests.Gt = true
orders tests.Ge = true

-- numbers and texts have an order, truth values none
abbrev pub is_compared_by : Cmp → Ty → Bool
is_compared_by cmp ty = not (orders cmp && same_ty ty tys.Bool)

-- the types that are known are one type, which has that comparison
abbrev pub pair_fits : Cmp → Option Ty → Option Ty → Bool
pair_fits cmp (Some a) (Some b) = same_ty a b && is_compared_by cmp a
pair_fits cmp (Some a) None = is_compared_by cmp a
pair_fits cmp None (Some b) = is_compared_by cmp b
pair_fits cmp None None = true

abbrev pub ty_of_opnd : (ℕ → Option Ty) → Schema → List FromItem → SqlOpnd → Option Ty
ty_of_opnd params schema froms (opnds.Column col) = ty_of_col schema froms col
ty_of_opnd params schema froms (opnds.Lit scalar) = Some (ty_of_scalar scalar)
ty_of_opnd params schema froms (opnds.Param n) = params n

abbrev pub is_of : Ty → Option Ty → Bool
is_of ty (Some other) = same_ty ty other
is_of ty None = false

-- the types of a condition's comparisons fit, given those of the parameters
abbrev mutual
  pub condition_fits : (ℕ → Option Ty) → Schema → List FromItem → Condition → Bool
  condition_fits params schema froms (Both a b) = condition_fits params schema froms a && condition_fits params schema froms b
  condition_fits params schema froms (Either a b) = condition_fits params schema froms a && condition_fits params schema froms b
  condition_fits params schema froms (Not a) = condition_fits params schema froms a
  condition_fits params schema froms (Compare cmp a b) = pair_fits cmp (ty_of_opnd params schema froms a) (ty_of_opnd params schema froms b)
  condition_fits params schema froms (Bare col) = is_of tys.Bool (ty_of_col schema froms col)
  condition_fits params schema froms (Exists from filter_) = filter_fits params schema (froms ++ from) filter_
  condition_fits params schema froms (Within opnd negated col from filter_) = pair_fits tests.Eq (ty_of_opnd params schema froms opnd) (ty_of_col schema (froms ++ from) col) && filter_fits params schema (froms ++ from) filter_

  pub filter_fits : (ℕ → Option Ty) → Schema → List FromItem → Filter → Bool
  filter_fits params schema froms Everything = true
  filter_fits params schema froms (Where a) = condition_fits params schema froms a

-- the column of a total is of numbers
abbrev pub kind_fits : Schema → List FromItem → NumberKind → Bool
kind_fits schema froms kinds.Count = true
kind_fits schema froms (kinds.Sum col other) = is_of tys.Long (ty_of_col schema froms col)
kind_fits schema froms (kinds.Max col other) = is_of tys.Long (ty_of_col schema froms col)
kind_fits schema froms (kinds.Min col other) = is_of tys.Long (ty_of_col schema froms col)

abbrev pub source_fits : Schema → List FromItem → Filter → Bool
source_fits schema froms filter_ = filter_fits (ty_of_param schema froms filter_) schema froms filter_

abbrev pub types_fit : Schema → PlainQuery → Bool
types_fit schema (Listing q) = source_fits schema q.from q.filter
types_fit schema (Number q) = kind_fits schema q.from q.kind && source_fits schema q.from q.filter
types_fit schema (Truth q) = source_fits schema q.from q.filter

-- a query is grouped as it has to be, and has no MIN key where it isn't grouped
abbrev pub listing_groups : PlainListing → Bool
listing_groups q = elim q.group as (λ _. Bool) [ Some col ↦ groups_by q col | None ↦ not (list_any (λ key. key.least) q.keys) ]

abbrev pub group_fits : PlainQuery → Bool
group_fits (Listing q) = listing_groups q
group_fits (Number q) = true
group_fits (Truth q) = true

abbrev pub opnd_param : SqlOpnd → ℕ
opnd_param (opnds.Column col) = 0
opnd_param (opnds.Lit scalar) = 0
opnd_param (opnds.Param n) = n

-- the greatest number of a parameter, 0 where there is none
abbrev mutual
  pub last_param : Condition → ℕ
  last_param (Both a b) = max (last_param a) (last_param b)
  last_param (Either a b) = max (last_param a) (last_param b)
  last_param (Not a) = last_param a
  last_param (Compare cmp a b) = max (opnd_param a) (opnd_param b)
  last_param (Bare col) = 0
  last_param (Exists from filter_) = filter_param filter_
  last_param (Within opnd negated col from filter_) = max (opnd_param opnd) (filter_param filter_)

  pub filter_param : Filter → ℕ
  filter_param Everything = 0
  filter_param (Where a) = last_param a

-- the types of the parameters 1 to n, where each has one
abbrev pub tys_up_to : (ℕ → Option Ty) → ℕ → Option (List Ty)
tys_up_to params zero = Some []
tys_up_to params (suc n) = tys_up_to params n >>= λ tys. params (suc n) >>= λ ty. Some (tys ++ ty ∷ [])

abbrev pub source_params : Schema → List FromItem → Filter → Option (List Ty)
source_params schema froms filter_ = tys_up_to (ty_of_param schema froms filter_) (filter_param filter_)

abbrev pub params_of : Schema → PlainQuery → Option (List Ty)
params_of schema (Listing q) = source_params schema q.from q.filter
params_of schema (Number q) = source_params schema q.from q.filter
params_of schema (Truth q) = source_params schema q.from q.filter

abbrev pub with_params : PlainQuery → List Ty → PlainQuery
with_params (Listing q) params = Listing (record q { params = params })
with_params (Number q) params = Number (record q { params = params })
with_params (Truth q) params = Truth (record q { params = params })

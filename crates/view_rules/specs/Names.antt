-- Variables, columns and constants.
use Rattle.std.specs.Prelude.{ℕ, List, [], ◌∷◌, Bool, true, false, ◌&&◌, not, nat_eq, Option, Some, None, is_some, slice_get, codes, if◌then◌else◌}
use Rattle.std.specs.Str.{bytes_eq}
use Rattle.view_items.specs.declared.item.Item.{Item}
use Rattle.view_map.specs.declared.model.Constant.{Constant}
use Rattle.view_map.specs.declared.model.Member.{Member}
use Rattle.view_rules.specs.declared.java_type.JavaType.{JavaType}
use Rattle.view_rules.specs.declared.java_type.JavaType.TheVariants as types
use Rattle.view_rules.specs.declared.sight.ClassConstant.{ClassConstant}
use Rattle.view_rules.specs.declared.sight.ColumnName.{ColumnName}
use Rattle.view_rules.specs.declared.sight.Param.{Param}
use Rattle.view_rules.specs.declared.sight.Sighted.{Sighted}
use Rattle.view_rules.specs.Decisions.{unboxed_type}
use Rattle.view_rules.specs.Literals.{is_value}
use Rattle.view_rules.specs.Options.{◌>>=◌, where_so}
use Rattle.view_rules.specs.Setting.{Within, is_at, past, is_number_among, is_name_among}
use Rattle.view_rules.specs.Sights.{in_sight}

-- what is seen up to a number, with its type
abbrev pub Seen : Type 0
Seen = ℕ × JavaType

-- ---- Variables

abbrev pub named_by : List Sighted → Option Item → Option Sighted
named_by s (Some item) = in_sight s item.bytes
named_by s None = None

-- the variable that an item names
abbrev pub variable_at : Within → List Sighted → ℕ → Option Sighted
variable_at w s i = named_by s (slice_get w.items i)

abbrev pub stands_alone : JavaType → Bool
stands_alone (types.Scalar t) = true
stands_alone (types.Row c) = true
stands_alone _ = false

-- A scalar or a row of the slice's own. A list or set stands alone nowhere but behind the `:` of a for-each, so that no other variable comes
-- to hold it.
abbrev pub own_type : Sighted → Option JavaType
own_type v = where_so (not v.outside && (not (is_some v.column) && stands_alone v.java)) v.java

-- A variable from outside may be read unless the method tests it for null and no guard stands before.
abbrev pub may_be_read : Within → Sighted → Bool
may_be_read w v = not (is_name_among v.name w.tested)

abbrev pub is_column_of : Option ℕ → Option ℕ → Bool
is_column_of (Some c) (Some d) = nat_eq c d
is_column_of None None = true
is_column_of _ _ = false

-- a parameter is this variable, or this column of it
abbrev pub is_param : Option Param → List ℕ → Option ℕ → Bool
is_param (Some p) name column = bytes_eq p.variable name && is_column_of p.column column
is_param None name column = false

abbrev pub is_scalar_type : JavaType → Bool
is_scalar_type (types.Scalar t) = true
is_scalar_type _ = false

-- a scalar from outside is a parameter
abbrev pub outer_type : Within → ℕ → Sighted → Option JavaType
outer_type w number v =
    where_so (v.outside && (is_scalar_type v.java && (may_be_read w v && is_param (slice_get w.params number) v.name None))) v.java

abbrev pub stands_for : Within → ℕ → ℕ → ℕ → Option ColumnName → Bool
stands_for w row class member (Some c) = (nat_eq c.class class && nat_eq c.member member) && is_at w row c.row
stands_for w row class member None = false

-- a local name that stands for a column of a row has the type that it is declared with
abbrev pub column_type : Within → ℕ → ℕ → ℕ → Sighted → Option JavaType
column_type w row class member v = where_so (not v.outside && stands_for w row class member v.column) v.java

-- ---- Columns

abbrev pub member_of : Within → ℕ → ℕ → Option Member
member_of w class member = slice_get w.map.classes class >>= λ c. slice_get c.members member

abbrev pub past_call : Within → Bool → ℕ → Option ℕ
past_call w true i = past w (codes "(") i >>= λ j. past w (codes ")") j
past_call w false i = Some i

-- `.m` or `.m()`, as the map has it; the type is the member's
abbrev pub past_member : Within → ℕ → ℕ → ℕ → Option Seen
past_member w class member i =
    member_of w class member >>= λ m. past w (codes ".") i >>= λ j. past w m.name j >>= λ k. past_call w m.is_call k >>= λ l. Some (l, types.Scalar m.java)

abbrev pub is_row_of : ℕ → JavaType → Bool
is_row_of class (types.Row c) = nat_eq c class
is_row_of class _ = false

abbrev pub column_of_member : Option Member → Option ℕ
column_of_member (Some m) = Some m.column
column_of_member None = None

-- a row from outside of which a column is read, which is a parameter
abbrev pub is_outer_row : Within → ℕ → ℕ → ℕ → Sighted → Bool
is_outer_row w class member number v =
    (v.outside && (is_row_of class v.java && may_be_read w v)) && is_param (slice_get w.params number) v.name (column_of_member (member_of w class member))

-- the schema's name of the column that a member gives
abbrev pub column_name : Within → ℕ → ℕ → Option (List ℕ)
column_name w class member =
    slice_get w.map.classes class >>= λ c. slice_get c.members member >>= λ m. slice_get w.tables c.table >>= λ t. slice_get t.columns m.column >>= λ column. Some column.name

-- ---- Constants

-- Java puts a constant's value in place of its name; the type is the declared one
abbrev pub constant_at : Within → Option ClassConstant → ℕ → Option Seen
constant_at w (Some c) i = past w c.name i >>= λ j. where_so (is_value c.value) (j, unboxed_type c.kind)
constant_at w None i = None

-- names with dots between them
abbrev pub past_names : Within → List (List ℕ) → ℕ → Option ℕ
past_names w [] i = Some i
past_names w (name ∷ names) i = past w (codes ".") i >>= λ j. past w name j >>= λ k. past_names w names k

abbrev pub past_dotted : Within → List (List ℕ) → ℕ → Option ℕ
past_dotted w [] i = None
past_dotted w (name ∷ names) i = past w name i >>= λ j. past_names w names j

abbrev pub map_constant : Within → Option Constant → ℕ → Option Seen
map_constant w (Some c) i = past_dotted w c.names i >>= λ j. where_so (is_value c.value) (j, unboxed_type c.kind)
map_constant w None i = None

abbrev pub map_constant_at : Within → ℕ → ℕ → Option Seen
map_constant_at w number i = if is_number_among number w.map_constants then map_constant w (slice_get w.map.constants number) i else None

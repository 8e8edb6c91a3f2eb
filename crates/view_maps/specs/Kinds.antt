-- What stands for the types of members.
use Rattle.std.specs.Prelude.{ℕ, Bool, true, false, List, codes}
use Rattle.view_map.specs.declared.model.ScalarKind.{ScalarKind}
use Rattle.view_map.specs.declared.model.ScalarKind.TheVariants as kinds
use Rattle.view_map.specs.declared.model.ScalarType.{ScalarType}

-- the type of columns of a schema
abbrev pub column_type : ScalarKind → List ℕ
column_type kinds.Int = codes "INT"
column_type kinds.Long = codes "BIGINT"
column_type kinds.Boolean = codes "BOOLEAN"
column_type kinds.Text = codes "TEXT"

-- the class that stands for a type
abbrev pub marker_of : ScalarKind → Bool → List ℕ
marker_of kinds.Int false = codes "IsInt"
marker_of kinds.Int true = codes "IsBoxedInt"
marker_of kinds.Long false = codes "IsLong"
marker_of kinds.Long true = codes "IsBoxedLong"
marker_of kinds.Boolean false = codes "IsBool"
marker_of kinds.Boolean true = codes "IsBoxedBool"
marker_of kinds.Text _ = codes "IsText"

abbrev pub marker : ScalarType → List ℕ
marker java = marker_of java.kind java.boxed

-- a constant is of a primitive type, or a text
abbrev pub constant_marker : ScalarKind → List ℕ
constant_marker kind = marker_of kind false

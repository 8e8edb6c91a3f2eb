-- The order of scalars, and comparisons of scalars that may be missing.
use Rattle.std.specs.Prelude.{Bool, true, false, ◌&&◌, List, [], ◌∷◌}
use Rattle.std.specs.Ordering.{nat_cmp, int_cmp, bool_cmp, is_lt, is_eq}
use Rattle.std.specs.Cmp.Lexicographic.{slice_cmp}
use Rattle.std.specs.declared.cmp.Ordering.{Ordering}
use Rattle.std.specs.declared.cmp.Ordering.TheVariants.{Equal}
use Rattle.std.specs.declared.option.Option.{Option}
use Rattle.std.specs.declared.option.Option.TheVariants.{Some, None}
use Rattle.qbs_base.specs.declared.scalar.Scalar.{Scalar}
use Rattle.qbs_base.specs.declared.scalar.Scalar.TheVariants.{Long, Bool as Truth, Text}

-- both are of one variant
abbrev pub SameVariant : Scalar → Scalar → Type 0
SameVariant (Long x) (Long y) = Unit {0}
SameVariant (Truth x) (Truth y) = Unit {0}
SameVariant (Text x) (Text y) = Unit {0}
SameVariant _ _ = ⊥

-- numbers by size, false before true, texts by their bytes
abbrev pub cmp_of : Scalar → Scalar → Ordering
cmp_of (Long x) (Long y) = int_cmp x y
cmp_of (Truth x) (Truth y) = bool_cmp x y
cmp_of (Text x) (Text y) = slice_cmp nat_cmp x y
cmp_of _ _ = Equal

-- the first is less than the second, both of one variant
abbrev pub scalar_less : Scalar → Scalar → Bool
scalar_less (Long x) (Long y) = is_lt (int_cmp x y)
scalar_less (Truth x) (Truth y) = is_lt (bool_cmp x y)
scalar_less (Text x) (Text y) = is_lt (slice_cmp nat_cmp x y)
scalar_less _ _ = false

-- both are one scalar
abbrev pub scalar_same : Scalar → Scalar → Bool
scalar_same (Long x) (Long y) = is_eq (int_cmp x y)
scalar_same (Truth x) (Truth y) = is_eq (bool_cmp x y)
scalar_same (Text x) (Text y) = is_eq (slice_cmp nat_cmp x y)
scalar_same _ _ = false

-- both are lists of the same scalars
abbrev pub same_cells : List Scalar → List Scalar → Bool
same_cells [] [] = true
same_cells (x ∷ xs) (y ∷ ys) = scalar_same x y && same_cells xs ys
same_cells _ _ = false

-- a test of two scalars, false where one is missing
abbrev pub compared : (Scalar → Scalar → Bool) → Option Scalar → Option Scalar → Bool
compared test (Some x) (Some y) = test x y
compared test (Some x) None = false
compared test None other = false

-- an order of all scalars: those of one variant in their order, numbers before truth values before texts
abbrev pub scalar_before : Scalar → Scalar → Bool
scalar_before (Long x) (Long y) = is_lt (int_cmp x y)
scalar_before (Long x) (Truth y) = true
scalar_before (Long x) (Text y) = true
scalar_before (Truth x) (Long y) = false
scalar_before (Truth x) (Truth y) = is_lt (bool_cmp x y)
scalar_before (Truth x) (Text y) = true
scalar_before (Text x) (Long y) = false
scalar_before (Text x) (Truth y) = false
scalar_before (Text x) (Text y) = is_lt (slice_cmp nat_cmp x y)

-- an order of scalars that may be missing, a missing one before all others
abbrev pub value_before : Option Scalar → Option Scalar → Bool
value_before None None = false
value_before None (Some y) = true
value_before (Some x) None = false
value_before (Some x) (Some y) = scalar_before x y

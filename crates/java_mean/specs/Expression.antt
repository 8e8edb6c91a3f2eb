-- The value of an expression.
use Rattle.std.specs.Prelude.{ℕ, ℤ, pos, negsuc, ◌+ℤ◌, ◌-ℤ◌, ◌*ℤ◌, Bool, true, false, not, ◌&&◌, ◌||◌, List, [], ◌∷◌, length, Option, Some, None, Result, Ok, Err, slice_get, if◌then◌else◌}
use Rattle.std.specs.List.{list_any}
use Rattle.qbs_base.specs.declared.span.Span.{Span}
use Rattle.qbs_base.specs.declared.scalar.Scalar.{Scalar}
use Rattle.qbs_base.specs.declared.scalar.Scalar.TheVariants as scalars
use Rattle.qbs_base.specs.declared.scalar.Kind.{Kind}
use Rattle.qbs_base.specs.declared.scalar.Kind.TheVariants as kinds
use Rattle.qbs_base.specs.declared.scalar.Row.{Row}
use Rattle.qbs_base.specs.declared.scalar.Value.{Value}
use Rattle.qbs_base.specs.declared.scalar.Value.TheVariants.{One, Whole, Many}
use Rattle.qbs_base.specs.declared.columns.Column.{Column}
use Rattle.qbs_base.specs.Columns.{column_number, columns_at}
use Rattle.qbs_base.specs.Named.{at_name}
use Rattle.qbs_base.specs.Scalar.{scalar_less, scalar_same, same_cells}
use Rattle.qbs_base.specs.Values.{Schema, fits_long}
use Rattle.sql_ast.specs.Grouped.{firsts}
use Rattle.java_ast.specs.declared.tree.Op.{Op}
use Rattle.java_ast.specs.declared.tree.Op.TheVariants as ops
use Rattle.java_ast.specs.Tree.{Expression, Lit, Var, Field, Binary, Not, Equals, Size, Get, Contains, Fetch, Query, QueryLong, QueryBoolean, NewList, NewSet, NewSetOf, Expressions, NoMore, And}
use Rattle.java_mean.specs.declared.ending.RunFault.TheVariants.{Overflow, OutOfRange, SumTooLarge}
use Rattle.java_mean.specs.declared.ending.Ending.{Ending}
use Rattle.java_mean.specs.declared.ending.Ending.TheVariants.{Faulted, Stuck}
use Rattle.java_mean.specs.Endings.{◌>>=◌, found}
use Rattle.java_mean.specs.Store.{Store}
use Rattle.java_mean.specs.Queries.{Answered}
use Rattle.java_mean.specs.Queries as answers
use Rattle.java_mean.specs.World.{World}

-- ---- What is asked of a value

abbrev pub as_scalar : Value → Result Scalar Ending
as_scalar (One x) = Ok x
as_scalar (Whole row) = Err Stuck
as_scalar (Many rows) = Err Stuck

abbrev pub as_row : Value → Result Row Ending
as_row (One x) = Err Stuck
as_row (Whole row) = Ok row
as_row (Many rows) = Err Stuck

abbrev pub as_rows : Value → Result (List Row) Ending
as_rows (One x) = Err Stuck
as_rows (Whole row) = Err Stuck
as_rows (Many rows) = Ok rows

abbrev pub as_long : Scalar → Result ℤ Ending
as_long (scalars.Long n) = Ok n
as_long (scalars.Bool b) = Err Stuck
as_long (scalars.Text t) = Err Stuck

abbrev pub as_bool : Scalar → Result Bool Ending
as_bool (scalars.Long n) = Err Stuck
as_bool (scalars.Bool b) = Ok b
as_bool (scalars.Text t) = Err Stuck

abbrev pub truth : Bool → Value
truth b = One (scalars.Bool b)

-- a whole number, or the fault of the expression at this place
abbrev pub number : Span → ℤ → Result Value Ending
number at n = if fits_long n then Ok (One (scalars.Long n)) else Err (Faulted Overflow at)

-- ---- Rows and members

abbrev pub columns_of : Schema → Kind → List Column
columns_of schema kinds.Plain = []
columns_of schema (kinds.Table n) = columns_at schema n

abbrev pub cell_at : List Scalar → Option ℕ → Option Scalar
cell_at cells None = None
cell_at cells (Some n) = slice_get cells n

-- the cell of a row in the column with this name
abbrev pub cell : Schema → Row → List ℕ → Option Scalar
cell schema row name = cell_at row.cells (column_number (columns_of schema row.kind) name)

-- a scalar stands in a list as a row of one cell
abbrev pub alone : Scalar → Row
alone x = record { kind = kinds.Plain; cells = x ∷ [] }

abbrev pub as_member : Value → Result Row Ending
as_member (One x) = Ok (alone x)
as_member (Whole row) = Ok row
as_member (Many rows) = Err Stuck

abbrev pub element_in : Kind → List Scalar → Row → Value
element_in kinds.Plain (x ∷ []) row = One x
element_in _ _ row = Whole row

-- a member of a list as a value
abbrev pub element : Row → Value
element row = element_in row.kind row.cells row

abbrev pub same_member : Row → Row → Bool
same_member a b = same_cells a.cells b.cells

abbrev pub is_among : List Row → Row → Bool
is_among rows row = list_any (same_member row) rows

abbrev pub nth : List Row → ℤ → Option Row
nth rows (pos n) = slice_get rows n
nth rows (negsuc n) = None

abbrev pub in_range : Span → Option Row → Result Row Ending
in_range at (Some row) = Ok row
in_range at None = Err (Faulted OutOfRange at)

-- ---- Operators

-- what `||` and `&&` are where their first operand settles it
abbrev pub settled : Op → Scalar → Option Value
settled ops.Or (scalars.Bool true) = Some (truth true)
settled ops.And (scalars.Bool false) = Some (truth false)
settled _ x = None

abbrev pub or_else : Option Value → Result Value Ending → Result Value Ending
or_else (Some v) run = Ok v
or_else None run = run

-- numbers and truth values are compared, texts by `equals` alone
abbrev pub same_of : Scalar → Scalar → Result Bool Ending
same_of (scalars.Long x) (scalars.Long y) = Ok (scalar_same (scalars.Long x) (scalars.Long y))
same_of (scalars.Bool x) (scalars.Bool y) = Ok (scalar_same (scalars.Bool x) (scalars.Bool y))
same_of _ _ = Err Stuck

abbrev pub same_text : Scalar → Scalar → Result Bool Ending
same_text (scalars.Text x) (scalars.Text y) = Ok (scalar_same (scalars.Text x) (scalars.Text y))
same_text _ _ = Err Stuck

abbrev pub less : ℤ → ℤ → Bool
less x y = scalar_less (scalars.Long x) (scalars.Long y)

abbrev pub of_bools : Op → Bool → Bool → Result Value Ending
of_bools ops.Or x y = Ok (truth (x || y))
of_bools ops.And x y = Ok (truth (x && y))
of_bools _ x y = Err Stuck

abbrev pub of_longs : Op → Span → ℤ → ℤ → Result Value Ending
of_longs ops.Lt at x y = Ok (truth (less x y))
of_longs ops.Le at x y = Ok (truth (not (less y x)))
of_longs ops.Gt at x y = Ok (truth (less y x))
of_longs ops.Ge at x y = Ok (truth (not (less x y)))
of_longs ops.Add at x y = number at (x +ℤ y)
of_longs ops.Sub at x y = number at (x -ℤ y)
of_longs ops.Mul at x y = number at (x *ℤ y)
of_longs _ at x y = Err Stuck

-- the operator's value at two operands
abbrev pub applied : Op → Span → Scalar → Scalar → Result Value Ending
applied ops.Eq at x y = same_of x y >>= λ b. Ok (truth b)
applied ops.Ne at x y = same_of x y >>= λ b. Ok (truth (not b))
applied op at (scalars.Bool x) (scalars.Bool y) = of_bools op x y
applied op at (scalars.Long x) (scalars.Long y) = of_longs op at x y
applied op at _ _ = Err Stuck

-- ---- Queries

abbrev pub answered : Span → Option Answered → Result Value Ending
answered at (Some (answers.Rows rows)) = Ok (Many rows)
answered at (Some (answers.One x)) = Ok (One x)
answered at (Some answers.TooLarge) = Err (Faulted SumTooLarge at)
answered at None = Err Stuck

-- ---- Expressions

-- the value, or the first fault from left to right, and the scalars of a list of expressions
abbrev mutual
  pub value_of : Expression → World → Store → Result Value Ending
  value_of (Lit at x) w s = Ok (One x)
  value_of (Var at x) w s = do
    held ← found (at_name s x)
    Ok held.value
  value_of (Field at e name) w s = do
    v ← value_of e w s
    row ← as_row v
    x ← found (cell w.schema row name)
    Ok (One x)
  value_of (Binary at op a b) w s = do
    v ← value_of a w s
    x ← as_scalar v
    or_else (settled op x) (do
      u ← value_of b w s
      y ← as_scalar u
      applied op at x y)
  value_of (Not at e) w s = do
    v ← value_of e w s
    x ← as_scalar v
    b ← as_bool x
    Ok (truth (not b))
  value_of (Equals at a b) w s = do
    v ← value_of a w s
    x ← as_scalar v
    u ← value_of b w s
    y ← as_scalar u
    b ← same_text x y
    Ok (truth b)
  value_of (Size at x) w s = do
    held ← found (at_name s x)
    rows ← as_rows held.value
    number at (pos (length rows))
  value_of (Get at x e) w s = do
    held ← found (at_name s x)
    rows ← as_rows held.value
    v ← value_of e w s
    y ← as_scalar v
    n ← as_long y
    row ← in_range at (nth rows n)
    Ok (element row)
  value_of (Contains at x e) w s = do
    held ← found (at_name s x)
    rows ← as_rows held.value
    v ← value_of e w s
    y ← as_scalar v
    Ok (truth (is_among rows (alone y)))
  value_of (Fetch at t) w s = do
    rows ← found (at_name w.db t)
    Ok (Many rows)
  value_of (Query at ty text es) w s = do
    xs ← scalars_of es w s
    answered at (w.ask text xs)
  value_of (QueryLong at text es) w s = do
    xs ← scalars_of es w s
    answered at (w.ask text xs)
  value_of (QueryBoolean at text es) w s = do
    xs ← scalars_of es w s
    answered at (w.ask text xs)
  value_of (NewList at) w s = Ok (Many [])
  value_of (NewSet at) w s = Ok (Many [])
  value_of (NewSetOf at e) w s = do
    v ← value_of e w s
    rows ← as_rows v
    Ok (Many (firsts same_member rows))

  pub scalars_of : Expressions → World → Store → Result (List Scalar) Ending
  scalars_of NoMore w s = Ok []
  scalars_of (And e es) w s = do
    v ← value_of e w s
    x ← as_scalar v
    xs ← scalars_of es w s
    Ok (x ∷ xs)

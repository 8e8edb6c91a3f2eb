-- What the rules of the kernel form ask of: a fragment in its program, and what the statements of its
-- run set and mention.
use Rattle.std.specs.Prelude.{ℕ, pos, Bool, true, false, ◌&&◌, ◌||◌, List, if◌then◌else◌}
use Rattle.std.specs.Str.{bytes_eq}
use Rattle.std.specs.declared.option.Option.{Option}
use Rattle.std.specs.declared.option.Option.TheVariants.{Some, None}
use Rattle.qbs_base.specs.declared.scalar.Scalar.{Scalar}
use Rattle.qbs_base.specs.declared.scalar.Scalar.TheVariants as scalars
use Rattle.qbs_base.specs.Scalar.{scalar_same}
use Rattle.java_ast.specs.declared.tree.Op.{Op}
use Rattle.java_ast.specs.declared.tree.Op.TheVariants as ops
use Rattle.java_ast.specs.Tree.{Expression, Statement, Statements, Nothing, Then}
use Rattle.java_ast.specs.Tree as plain
use Rattle.java_ast.specs.Names.{is_among, mentioned_in}
use Rattle.loop_text.specs.Statements.Fragment.{set_by}

-- ---- The run

-- a statement of a run mentions a variable, to set it or otherwise
abbrev pub touches : List ℕ → Statement → Bool
touches x s = bytes_eq (set_by s) x || is_among (mentioned_in s) x

-- the first statement of a run that mentions a variable
abbrev pub first_touching : List ℕ → Statements → Option Statement
first_touching x Nothing = None
first_touching x (Then s ss) = if touches x s then Some s else first_touching x ss

-- what stands behind that statement
abbrev pub behind_touching : List ℕ → Statements → Statements
behind_touching x Nothing = Nothing
behind_touching x (Then s ss) = if touches x s then ss else behind_touching x ss

abbrev pub is_add : Op → Bool
is_add ops.Add = true
is_add _ = false

abbrev pub is_found : {A : Type 0} → Option A → Bool
is_found (Some s) = true
is_found None = false

-- whether more than one statement mentions it
abbrev pub touched_again : List ℕ → Statements → Bool
touched_again x run = is_found (first_touching x (behind_touching x run))

-- the value that a statement gives to a variable
abbrev pub given_by : List ℕ → Statement → Option Expression
given_by x (plain.Declare at ty y e) = if bytes_eq y x then Some e else None
given_by x (plain.Assign at y e) = if bytes_eq y x then Some e else None
given_by x _ = None

-- the numbers 0 and 1
abbrev pub is_number : ℕ → Scalar → Bool
is_number n value = scalar_same value (scalars.Long (pos n))

abbrev pub is_literal_number : ℕ → Expression → Bool
is_literal_number n (plain.Lit at value) = is_number n value
is_literal_number n _ = false

-- a name by itself
abbrev pub is_variable : List ℕ → Expression → Bool
is_variable x (plain.Var at y) = bytes_eq y x
is_variable x _ = false

-- the sum of a variable and 1, in this order
abbrev pub is_next_of : List ℕ → Expression → Bool
is_next_of x (plain.Binary at op a b) = is_add op && (is_variable x a && is_literal_number 1 b)
is_next_of x _ = false

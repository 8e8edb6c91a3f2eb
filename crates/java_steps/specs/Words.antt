-- Parts of the meaning that functions of the interpreter give.
use Rattle.std.specs.Prelude.{ℕ, ℤ, pos, Bool, not, List, length, ◌++◌, Result, Ok}
use Rattle.qbs_base.specs.Named.{at_name}
use Rattle.qbs_base.specs.Scalar.{value_before}
use Rattle.qbs_base.specs.Sort.{turned, stable_sort}
use Rattle.qbs_base.specs.Values.{Schema}
use Rattle.qbs_base.specs.declared.scalar.Row.{Row}
use Rattle.qbs_base.specs.declared.scalar.Scalar.{Scalar}
use Rattle.qbs_base.specs.declared.scalar.Value.{Value}
use Rattle.qbs_base.specs.declared.scalar.Value.TheVariants.{Many}
use Rattle.qbs_base.specs.declared.span.Span.{Span}
use Rattle.sql_ast.specs.Grouped.{firsts}
use Rattle.java_mean.specs.declared.ending.Ending.{Ending}
use Rattle.java_mean.specs.Endings.{◌>>=◌, found}
use Rattle.java_ast.specs.declared.tree.Op.{Op}
use Rattle.java_ast.specs.Tree.{Spelled, Expression, Expressions}
use Rattle.java_mean.specs.Expression.{value_of, scalars_of, answered, as_scalar, as_row, as_rows, as_long, as_bool, as_member, alone, applied, cell, element, in_range, is_among, nth, number, or_else, same_member, same_text, settled, truth}
use Rattle.java_mean.specs.Statement.{State, Passed, Does, done, with_value, with_variable, with_line, printed, is_set_type, added, in_order}
use Rattle.java_mean.specs.Store.{Store}
use Rattle.java_mean.specs.World.{World}

abbrev pub held_at : Store → List ℕ → Result Value Ending
held_at s x = do
  held ← found (at_name s x)
  Ok held.value

abbrev pub list_at : Store → List ℕ → Result (List Row) Ending
list_at s x = do
  held ← found (at_name s x)
  as_rows held.value

abbrev pub scalar_at : Store → List ℕ → Result Scalar Ending
scalar_at s x = do
  v ← held_at s x
  as_scalar v

abbrev pub size_at : Span → Store → List ℕ → Result Value Ending
size_at at s x = do
  rows ← list_at s x
  number at (pos (length rows))

abbrev pub cell_in : World → Row → List ℕ → Result Scalar Ending
cell_in w row name = found (cell w.schema row name)

abbrev pub member_at : Span → List Row → ℤ → Result Value Ending
member_at at rows n = do
  row ← in_range at (nth rows n)
  Ok (element row)

abbrev pub fetched : World → List ℕ → Result Value Ending
fetched w t = do
  rows ← found (at_name w.db t)
  Ok (Many rows)

-- the scalar of an expression, and what is made of it
abbrev pub scalar_in : Expression → World → Store → Result Scalar Ending
scalar_in e w s = do
  v ← value_of e w s
  as_scalar v

-- the operator's value where its first operand is this scalar
abbrev pub operated_in : Op → Span → Scalar → Expression → World → Store → Result Value Ending
operated_in op at x e w s = or_else (settled op x) (do
  y ← scalar_in e w s
  applied op at x y)

abbrev pub opposite_in : Expression → World → Store → Result Value Ending
opposite_in e w s = do
  x ← scalar_in e w s
  b ← as_bool x
  Ok (truth (not b))

abbrev pub same_text_in : Scalar → Expression → World → Store → Result Value Ending
same_text_in x e w s = do
  y ← scalar_in e w s
  same ← same_text x y
  Ok (truth same)

abbrev pub member_in : Span → List ℕ → Expression → World → Store → Result Value Ending
member_in at x e w s = do
  rows ← list_at s x
  y ← scalar_in e w s
  n ← as_long y
  member_at at rows n

abbrev pub contained_in : List ℕ → Expression → World → Store → Result Value Ending
contained_in x e w s = do
  rows ← list_at s x
  y ← scalar_in e w s
  Ok (truth (is_among rows (alone y)))

-- the rows of an expression, each at its first place
abbrev pub distinct_in : Expression → World → Store → Result Value Ending
distinct_in e w s = do
  v ← value_of e w s
  rows ← as_rows v
  Ok (Many (firsts same_member rows))

abbrev pub field_in : Expression → World → Store → List ℕ → Result Scalar Ending
field_in e w s name = do
  v ← value_of e w s
  row ← as_row v
  cell_in w row name

-- the order of rows by one key
abbrev pub key_before : Schema → List ℕ → Bool → Row → Row → Bool
key_before schema key down = turned down (λ a b. value_before (cell schema a key) (cell schema b key))

-- ---- What statements without statements in them do, by the values of their expressions

-- a variable that is there holds another value
abbrev pub assigned : State → List ℕ → Value → Result Passed Ending
assigned s x v = do
  held ← found (at_name s.store x)
  done (with_value s x held v)

-- a list or a set has a member more
abbrev pub added_to : State → List ℕ → Row → Result Passed Ending
added_to s x row = do
  held ← found (at_name s.store x)
  rows ← as_rows held.value
  done (with_value s x held (Many (added held.is_set rows row)))

abbrev pub sorts : Schema → List ℕ → List (List ℕ) → List Bool → Does
sorts schema x keys down s = do
  held ← found (at_name s.store x)
  rows ← as_rows held.value
  done (with_value s x held (Many (stable_sort (in_order schema keys down) rows)))

abbrev pub declares : Spelled → List ℕ → Expression → World → Does
declares ty x e w s = do
  v ← value_of e w s.store
  done (with_variable s x (record { value = v; is_set = is_set_type ty }))

abbrev pub assigns : List ℕ → Expression → World → Does
assigns x e w s = do
  v ← value_of e w s.store
  assigned s x v

abbrev pub adds : List ℕ → Expression → World → Does
adds x e w s = do
  v ← value_of e w s.store
  row ← as_member v
  added_to s x row

abbrev pub prints : Expression → World → Does
prints e w s = do
  v ← value_of e w s.store
  x ← as_scalar v
  done (with_line s (printed x))

-- the rows that an expression gives
abbrev pub rows_given : Expression → World → Store → Result (List Row) Ending
rows_given e w s = do
  v ← value_of e w s
  as_rows v

-- the answer of a text's query to the scalars of expressions
abbrev pub asked_in : Expressions → World → Store → Span → List ℕ → Result Value Ending
asked_in es w s at text = do
  xs ← scalars_of es w s
  answered at (w.ask text xs)

-- a list with others in front
abbrev pub prefixed : List Scalar → Result (List Scalar) Ending → Result (List Scalar) Ending
prefixed front r = r >>= λ rest. Ok (front ++ rest)

-- Runs: the declarations, assignments and sorts that lead up to a loop. What they leave, and which of
-- them are kept for the sake of a set of variables.
use Rattle.std.specs.Prelude.{◌≡◌, ℕ, Bool, true, false, not, ◌||◌, List, [], ◌∷◌, Option, Some, None, Result, Ok, Err, if◌then◌else◌}
use Rattle.std.specs.Str.{bytes_eq}
use Rattle.qbs_base.specs.declared.span.Span.{Span}
use Rattle.qbs_base.specs.declared.scalar.Row.{Row}
use Rattle.qbs_base.specs.declared.scalar.Value.{Value}
use Rattle.qbs_base.specs.declared.scalar.Value.TheVariants.{One, Many}
use Rattle.qbs_base.specs.Named.{at_name}
use Rattle.qbs_base.specs.Sort.{stable_sort}
use Rattle.java_ast.specs.Tree.{Spelled, Expression, Statement, Statements, Nothing, Then}
use Rattle.java_ast.specs.Tree as plain
use Rattle.java_mean.specs.declared.ending.Ending.{Ending}
use Rattle.java_mean.specs.declared.ending.Ending.TheVariants.{Stuck}
use Rattle.java_mean.specs.Endings.{◌>>=◌, found}
use Rattle.java_mean.specs.Expression.{value_of, as_rows}
use Rattle.java_mean.specs.Refines.{followed_by}
use Rattle.java_mean.specs.Statement.{State, Passed, GoesOn, in_order, is_set_type, meanings}
use Rattle.java_mean.specs.Store.{Store, Variable, put}
use Rattle.java_mean.specs.World.{World}
use Rattle.loop_text.specs.Statements.Fragment.{set_by}
use Rattle.java_loops.specs.Walks.Reads.{Set, Reads, SameOn}

-- ---- Runs

-- some statement of the run sets the variable
abbrev pub is_set_in : Statements → Set
is_set_in Nothing x = false
is_set_in (Then a p) x = bytes_eq (set_by a) x || is_set_in p x

-- the statements of the run that set the variable, in their order
abbrev pub settings : Statements → List ℕ → List Statement
settings Nothing x = []
settings (Then a p) x = if bytes_eq (set_by a) x then a ∷ settings p x else settings p x

-- A statement of the run that sets the variable, with what stands before and after it, where the statements that
-- set it are the first, this one, and the last.
pub record SplitsAt (p : Statements) (x : List ℕ) (first : List Statement) (a : Statement) (last : List Statement) : Type 0 where
  pub before : Statements
  pub after : Statements
  pub whole : p ≡ followed_by before (Then a after)
  pub sets : set_by a ≡ x
  pub first_set : settings before x ≡ first
  pub last_set : settings after x ≡ last

-- what no statement of the run sets
abbrev pub unset_in : Statements → Set
unset_in p = λ x. not (is_set_in p x)

-- what a statement of a run makes of the variable that it sets
abbrev pub made : Statement → World → Store → Result Variable Ending
made (plain.Declare at ty x e) w s = do
  v ← value_of e w s
  Ok (record { value = v; is_set = is_set_type ty })
made (plain.Assign at x e) w s = do
  v ← value_of e w s
  held ← found (at_name s x)
  Ok (record { value = v; is_set = held.is_set })
made (plain.Sort at x keys down) w s = do
  held ← found (at_name s x)
  rows ← as_rows held.value
  Ok (record { value = Many (stable_sort (in_order w.schema keys down) rows); is_set = held.is_set })
made _ w s = Err Stuck

-- the variables after a run
abbrev pub ran : Statements → World → Store → Result Store Ending
ran Nothing w s = Ok s
ran (Then a p) w s = do
  v ← made a w s
  ran p w (put s (set_by a) v)

-- ---- What a run leaves

-- it goes on, with the same lines and turns
pub record IsSilent (s : State) (q : Passed) : Type 0 where
  pub state : State
  pub is : q ≡ GoesOn state
  pub lines : state.lines ≡ s.lines
  pub turns : state.turns ≡ s.turns

-- a statement that gives a variable the value of an expression
pub data Gives : Statement → List ℕ → Expression → Type 0 where
  declares : (at : Span) (ty : Spelled) (x : List ℕ) (e : Expression) → Gives (plain.Declare at ty x e) x e
  assigns : (at : Span) (x : List ℕ) (e : Expression) → Gives (plain.Assign at x e) x e

abbrev pub set_held : Option Variable → Bool
set_held (Some v) = v.is_set
set_held None = false

-- whether the variable that a statement sets in this store is a set then: as it is declared, or as it was
abbrev pub set_after : Statement → Store → Bool
set_after (plain.Declare at ty x e) s = is_set_type ty
set_after a s = set_held (at_name s (set_by a))

-- the value of a new list or set, and of a literal
abbrev pub constant : Expression → Option Value
constant (plain.Lit at x) = Some (One x)
constant (plain.NewList at) = Some (Many [])
constant (plain.NewSet at) = Some (Many [])
constant _ = None

-- In the last state the variable has the value that the expression has where the run comes to the statement.
pub record IsGiven (w : World) (before : Statements) (a : Statement) (x : List ℕ) (e : Expression) (s t : State) : Type 0 where
  pub start : State
  pub reached : meanings before w s ≡ Ok (GoesOn start)
  pub held : Variable
  pub left : at_name t.store x ≡ Some held
  pub value : value_of e w start.store ≡ Ok held.value
  pub set : held.is_set ≡ set_after a start.store

-- In the last state the variable has these rows in the order of the keys, where it has the rows where the run
-- comes to the sort.
pub record IsSorted (w : World) (before : Statements) (x : List ℕ) (keys : List (List ℕ)) (down : List Bool) (s t : State) : Type 0 where
  pub start : State
  pub reached : meanings before w s ≡ Ok (GoesOn start)
  pub held : Variable
  pub there : at_name start.store x ≡ Some held
  pub rows : List Row
  pub are : as_rows held.value ≡ Ok rows
  pub left : at_name t.store x ≡ Some (record { value = Many (stable_sort (in_order w.schema keys down) rows); is_set = held.is_set })

-- The table's rows are in the variable, as they are put by this.
pub record HasRows (w : World) (table x : List ℕ) (put_so : List Row → List Row) (t : State) : Type 0 where
  pub rows : List Row
  pub are : at_name w.db table ≡ Some rows
  pub held : Variable
  pub left : at_name t.store x ≡ Some held
  pub value : held.value ≡ Many (put_so rows)

-- ---- Kept statements

-- the statements of a run that set a variable of the set
abbrev pub kept : Set → Statements → Statements
kept r Nothing = Nothing
kept r (Then a p) = if r (set_by a) then Then a (kept r p) else kept r p

-- what a statement of a run reads is of the set
abbrev pub StepReads : Set → Statement → Type 0
StepReads r (plain.Declare at ty x e) = Reads r e
StepReads r (plain.Assign at x e) = Reads r e
StepReads r _ = Unit {0}

-- each kept statement reads what is of the set
abbrev pub KeptRead : Set → Statements → Type 0
KeptRead r Nothing = Unit {0}
KeptRead r (Then a p) = (r (set_by a) ≡ true → StepReads r a) × KeptRead r p

-- statements pass with the same lines and turns as a run that ends in the last state, and leave the same at
-- each name of the set
pub record KeptPasses (w : World) (r : Set) (p : Statements) (s t : State) : Type 0 where
  pub state : State
  pub passes : meanings p w s ≡ Ok (GoesOn state)
  pub same : SameOn r state.store t.store
  pub lines : state.lines ≡ t.lines
  pub turns : state.turns ≡ t.turns

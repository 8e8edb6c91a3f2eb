-- What a statement does.
use Rattle.std.specs.Prelude.{ℕ, zero, suc, Bool, true, false, List, [], ◌∷◌, ◌++◌, Option, Some, None, Result, Ok, Err, ◌&&◌, if◌then◌else◌}
use Rattle.std.specs.Fmt.{signed_decimal}
use Rattle.qbs_base.specs.declared.scalar.Scalar.{Scalar}
use Rattle.qbs_base.specs.declared.scalar.Scalar.TheVariants as scalars
use Rattle.qbs_base.specs.declared.scalar.Row.{Row}
use Rattle.qbs_base.specs.declared.scalar.Value.{Value}
use Rattle.qbs_base.specs.declared.scalar.Value.TheVariants.{Many}
use Rattle.qbs_base.specs.Named.{at_name}
use Rattle.qbs_base.specs.Scalar.{value_before}
use Rattle.qbs_base.specs.Sort.{stable_sort, then_by, turned}
use Rattle.qbs_base.specs.Values.{Schema}
use Rattle.java_ast.specs.Tree.{Spelled, SetOf, Expression, Statement, Declare, Assign, Add, Sort, If, IfElse, ForEach, While, Print, Return, Break, Statements, Nothing, Then}
use Rattle.java_mean.specs.declared.ending.Ending.{Ending}
use Rattle.java_mean.specs.declared.ending.Ending.TheVariants.{OutOfTurns}
use Rattle.java_mean.specs.Endings.{◌>>=◌, found}
use Rattle.java_mean.specs.Store.{Store, Variable, put, plainly}
use Rattle.java_mean.specs.World.{World}
use Rattle.java_mean.specs.Expression.{value_of, as_scalar, as_rows, as_bool, as_member, is_among, element, cell}

-- what a statement starts from and leaves
pub record State : Type 0 where
  pub store : Store
  pub lines : List (List ℕ)
  pub turns : ℕ

-- A statement passes: the run goes on from the state, or leaves the innermost loop with it, or
-- returns from the method with it and a value or none.
pub data Passed : Type 0 where
  GoesOn : State → Passed
  Leaves : State → Passed
  Returns : State → Option Value → Passed

abbrev pub Does : Type 0
Does = State → Result Passed Ending

abbrev pub done : Does
done s = Ok (GoesOn s)

-- what comes after a statement: after a leaving or a return it is skipped
abbrev pub then_do : Result Passed Ending → Does → Result Passed Ending
then_do (Ok (GoesOn s)) f = f s
then_do (Ok (Leaves s)) f = Ok (Leaves s)
then_do (Ok (Returns s v)) f = Ok (Returns s v)
then_do (Err e) f = Err e

-- what comes after a turn of a loop: a leaving ends the loop
abbrev pub then_turn : Result Passed Ending → Does → Result Passed Ending
then_turn (Ok (GoesOn s)) f = f s
then_turn (Ok (Leaves s)) f = Ok (GoesOn s)
then_turn (Ok (Returns s v)) f = Ok (Returns s v)
then_turn (Err e) f = Err e

abbrev pub branch : Bool → Does → Does → Does
branch true f g s = f s
branch false f g s = g s

-- one turn less, or the end of the run where none is left
abbrev pub fewer : ℕ → Store → List (List ℕ) → Result State Ending
fewer zero store lines = Err OutOfTurns
fewer (suc n) store lines = Ok (record { store = store; lines = lines; turns = n })

abbrev pub turn : State → Result State Ending
turn s = fewer s.turns s.store s.lines

abbrev pub with_variable : State → List ℕ → Variable → State
with_variable s x v = record { store = put s.store x v; lines = s.lines; turns = s.turns }

-- the variable keeps being a set or none
abbrev pub with_value : State → List ℕ → Variable → Value → State
with_value s x held v = with_variable s x (record { value = v; is_set = held.is_set })

abbrev pub with_line : State → List ℕ → State
with_line s line = record { store = s.store; lines = s.lines ++ line ∷ []; turns = s.turns }

-- the text of a printed scalar: digits, `true` or `false`, or the text as it is
abbrev pub printed : Scalar → List ℕ
printed (scalars.Long n) = signed_decimal n
printed (scalars.Bool true) = 116 ∷ 114 ∷ 117 ∷ 101 ∷ []
printed (scalars.Bool false) = 102 ∷ 97 ∷ 108 ∷ 115 ∷ 101 ∷ []
printed (scalars.Text t) = t

abbrev pub is_set_type : Spelled → Bool
is_set_type (SetOf e) = true
is_set_type _ = false

-- with a member more at the end, in a set only where it isn't there
abbrev pub added : Bool → List Row → Row → List Row
added is_set rows row = if is_set && is_among rows row then rows else rows ++ row ∷ []

-- the order of rows by keys, the first one first, each up or down
abbrev pub in_order : Schema → List (List ℕ) → List Bool → Row → Row → Bool
in_order schema (key ∷ keys) (down ∷ downs) =
    then_by (turned down (λ a b. value_before (cell schema a key) (cell schema b key))) (in_order schema keys downs)
in_order schema _ _ = λ a b. false

-- a loop over a list: one turn for each member that it comes to
abbrev pub each : List Row → List ℕ → Does → Does
each [] x body s = Ok (GoesOn s)
each (row ∷ rows) x body s = do
  t ← turn s
  then_turn (body (with_variable t x (plainly (element row)))) (each rows x body)

abbrev pub Test : Type 0
Test = Store → Result Bool Ending

-- a loop with a test: one turn each time that it is true, where no more than n are left
abbrev pub repeat : ℕ → Test → Does → Does
repeat zero test body s = do
  b ← test s.store
  branch b (λ t. Err OutOfTurns) done s
repeat (suc n) test body s = do
  b ← test s.store
  branch b (λ t. turn t >>= λ u. then_turn (body u) (repeat n test body)) done s

abbrev pub test_of : Expression → World → Test
test_of e w store = value_of e w store >>= as_scalar >>= as_bool

abbrev pub returned : Option Expression → World → Does
returned None w s = Ok (Returns s None)
returned (Some e) w s = do
  v ← value_of e w s.store
  Ok (Returns s (Some v))

-- what a statement does, and what a list of statements does
abbrev mutual
  pub meaning : Statement → World → Does
  meaning (Declare at ty x e) w s = do
    v ← value_of e w s.store
    done (with_variable s x (record { value = v; is_set = is_set_type ty }))
  meaning (Assign at x e) w s = do
    v ← value_of e w s.store
    held ← found (at_name s.store x)
    done (with_value s x held v)
  meaning (Add at x e) w s = do
    v ← value_of e w s.store
    row ← as_member v
    held ← found (at_name s.store x)
    rows ← as_rows held.value
    done (with_value s x held (Many (added held.is_set rows row)))
  meaning (Sort at x keys down) w s = do
    held ← found (at_name s.store x)
    rows ← as_rows held.value
    done (with_value s x held (Many (stable_sort (in_order w.schema keys down) rows)))
  meaning (If at c a) w s = do
    b ← test_of c w s.store
    branch b (meanings a w) done s
  meaning (IfElse at c a o) w s = do
    b ← test_of c w s.store
    branch b (meanings a w) (meanings o w) s
  meaning (ForEach at ty x e body) w s = do
    v ← value_of e w s.store
    rows ← as_rows v
    each rows x (meanings body w) s
  meaning (While at c body) w s = repeat s.turns (test_of c w) (meanings body w) s
  meaning (Print at e) w s = do
    v ← value_of e w s.store
    x ← as_scalar v
    done (with_line s (printed x))
  meaning (Return at e) w s = returned e w s
  meaning (Break at) w s = Ok (Leaves s)

  pub meanings : Statements → World → Does
  meanings Nothing w s = done s
  meanings (Then a p) w s = then_do (meaning a w s) (meanings p w)

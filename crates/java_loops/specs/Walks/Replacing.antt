-- A run and its loop give way to the kept statements of the run and one statement for each variable that
-- the loop was there for.
use Rattle.std.specs.Prelude.{◌≡◌, ℕ, ◌≤◌, Bool, true, false, ◌||◌, List, [], ◌∷◌, Ok}
use Rattle.std.specs.Str.{bytes_eq}
use Rattle.std.specs.declared.option.Option.{Option}
use Rattle.std.specs.declared.option.Option.TheVariants.{Some, None}
use Rattle.qbs_base.specs.declared.span.Span.{Span}
use Rattle.qbs_base.specs.Named.{at_name}
use Rattle.qbs_base.specs.Values.{Schema}
use Rattle.java_ast.specs.Tree.{Spelled, Expression, Statement, Declare, Assign, Statements, Nothing, Then, PlainMethod}
use Rattle.java_mean.specs.Expression.{value_of}
use Rattle.java_mean.specs.Refines.{Hole, followed_by, types_at}
use Rattle.java_mean.specs.Statement.{State, Passed, GoesOn, is_set_type, meaning, meanings}
use Rattle.java_mean.specs.Store.{Variable}
use Rattle.java_mean.specs.declared.types.JavaType.{JavaType}
use Rattle.java_mean.specs.Types.{Types, type_spelled, types_of_params, is_distinct, IsTyped}
use Rattle.java_mean.specs.Typing.{Frame, IsWorld}
use Rattle.java_mean.specs.World.{World}
use Rattle.java_loops.specs.Walks.Reads.{Set, Reads}
use Rattle.loop_text.specs.Statements.Fragment.{are_simple}
use Rattle.java_loops.specs.Walks.Runs.{kept, KeptRead}

-- The statement that stands for what a loop makes of a variable: it gives it this expression's value. With
-- a type it declares the variable, and else it assigns it.
pub record Ask : Type 0 where
  pub at : Span
  pub ty : Option Spelled
  pub name : List ℕ
  pub value : Expression

abbrev pub asking : Option Spelled → Span → List ℕ → Expression → Statement
asking (Some ty) at x e = Declare at ty x e
asking None at x e = Assign at x e

abbrev pub asked : List Ask → Statements
asked [] = Nothing
asked (k ∷ ks) = Then (asking k.ty k.at k.name k.value) (asked ks)

abbrev pub is_asked : List Ask → Set
is_asked [] x = false
is_asked (k ∷ ks) x = bytes_eq k.name x || is_asked ks x

-- the kept statements, and then those that ask
abbrev pub replacement : Set → Statements → List Ask → Statements
replacement r run ks = followed_by (kept r run) (asked ks)

abbrev pub run_and_loop : Statements → Statement → Statements
run_and_loop run loop = followed_by run (Then loop Nothing)

abbrev pub set_typed : Option JavaType → Bool
set_typed (Some k) = is_distinct k
set_typed None = false

-- whether the variable is a set: as it is declared, or by its type before the run
abbrev pub set_asked : Types → Option Spelled → List ℕ → Bool
set_asked g (Some ty) x = is_set_type ty
set_asked g None x = set_typed (g x)

-- what is assigned is visible before the run
abbrev pub IsThere : Types → Option Spelled → List ℕ → Type 0
IsThere g (Some ty) x = Unit {0}
IsThere g None x = (k : JavaType) × (g x ≡ Some k)

-- no kept statement sets the variable, no other ask is for it, and what its expression reads is in the set for
-- whose sake statements are kept
pub record AskFits (r : Set) (g : Types) (others : List Ask) (k : Ask) : Type 0 where
  pub apart : r k.name ≡ false
  pub once : is_asked others k.name ≡ false
  pub reads : Reads r k.value
  pub there : IsThere g k.ty k.name

abbrev pub AllFit : Set → Types → List Ask → Type 0
AllFit r g [] = Unit {0}
AllFit r g (k ∷ ks) = AskFits r g ks k × AllFit r g ks

-- in the state before the loop the expression has the value that the variable has in the state after it
pub record IsAnswered (w : World) (g : Types) (before after : State) (k : Ask) : Type 0 where
  pub held : Variable
  pub left : at_name after.store k.name ≡ Some held
  pub set : held.is_set ≡ set_asked g k.ty k.name
  pub value : value_of k.value w before.store ≡ Ok held.value

abbrev pub AllAnswered : World → Types → State → State → List Ask → Type 0
AllAnswered w g before after [] = Unit {0}
AllAnswered w g before after (k ∷ ks) = IsAnswered w g before after k × AllAnswered w g before after ks

-- The loop passes by going on, with what is asked for, and leaves the lines, and of the variables of m those
-- that aren't asked for. It may take turns.
pub record LoopAnswers (w : World) (g m : Types) (ks : List Ask) (before : State) (q : Passed) : Type 0 where
  pub state : State
  pub is : q ≡ GoesOn state
  pub answered : AllAnswered w g before state ks
  pub same : (x : List ℕ) (k : JavaType) → m x ≡ Some k → is_asked ks x ≡ false → at_name state.store x ≡ at_name before.store x
  pub lines : state.lines ≡ before.lines
  pub turns : state.turns ≤ before.turns

-- The run and the loop may give way, where the variables g are visible before and the variables m are
-- looked at after: each of these is in the set r or asked for, and from wherever the run passes the loop's
-- passing answers what is asked.
pub record MayGiveWay (c : Frame) (g m : Types) (run : Statements) (loop : Statement) (r : Set) (ks : List Ask) : Type 0 where
  pub simple : are_simple run ≡ true
  pub reads : KeptRead r run
  pub fits : AllFit r g ks
  pub known : (x : List ℕ) (k : JavaType) → m x ≡ Some k → (r x || is_asked ks x) ≡ true
  pub answers : (w : World) → IsWorld c w → (s : State) → IsTyped c.schema g s.store → (t : State) → meanings run w s ≡ Ok (GoesOn t) → (q : Passed) → meaning loop w t ≡ Ok q → LoopAnswers w g m ks t q

-- ---- In a program

-- the variables that are visible at a place of a method, with their types
abbrev pub seen_at : Schema → PlainMethod → Hole → Types
seen_at schema m hole = types_at schema (types_of_params schema m.params) hole

-- what an ask declares the run declares with the same type
abbrev pub HasSameType : Schema → Types → Option Spelled → List ℕ → Type 0
HasSameType schema h (Some ty) x = h x ≡ type_spelled schema ty
HasSameType schema h None x = Unit {0}

abbrev pub HaveSameTypes : Schema → Types → List Ask → Type 0
HaveSameTypes schema h [] = Unit {0}
HaveSameTypes schema h (k ∷ ks) = HasSameType schema h k.ty k.name × HaveSameTypes schema h ks

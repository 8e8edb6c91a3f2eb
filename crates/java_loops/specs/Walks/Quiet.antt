-- Statements that print nothing and return nothing, and loops that give way by what their text says.
use Rattle.std.specs.Prelude.{◌≡◌, ℕ, ◌≤◌, Bool, true, false, ◌&&◌, ◌||◌, List, Ok}
use Rattle.std.specs.declared.option.Option.TheVariants.{Some}
use Rattle.qbs_base.specs.declared.span.Span.{Span}
use Rattle.java_ast.specs.Tree.{Spelled, Expression, Statement, Statements, Nothing, Then}
use Rattle.java_ast.specs.Tree as plain
use Rattle.java_mean.specs.declared.types.JavaType.{JavaType}
use Rattle.java_mean.specs.Statement.{State, Passed, GoesOn, meaning, meanings}
use Rattle.java_mean.specs.Types.{Types, IsTyped}
use Rattle.java_mean.specs.Typing.{Frame, IsWorld}
use Rattle.java_mean.specs.World.{World}
use Rattle.java_loops.specs.Walks.Reads.{Set, touches}
use Rattle.java_loops.specs.Walks.Replacing.{Ask, is_asked, AllFit, AllAnswered}
use Rattle.loop_text.specs.Statements.Fragment.{are_simple}
use Rattle.java_loops.specs.Walks.Runs.{KeptRead}

-- no part of it prints or returns
abbrev mutual
  pub is_quiet : Statement → Bool
  is_quiet (plain.Declare at ty x e) = true
  is_quiet (plain.Assign at x e) = true
  is_quiet (plain.Add at x e) = true
  is_quiet (plain.Sort at x keys down) = true
  is_quiet (plain.If at c p) = are_quiet p
  is_quiet (plain.IfElse at c p q) = are_quiet p && are_quiet q
  is_quiet (plain.ForEach at ty x e b) = are_quiet b
  is_quiet (plain.While at c b) = are_quiet b
  is_quiet (plain.Print at e) = false
  is_quiet (plain.Return at e) = false
  is_quiet (plain.Break at) = true

  pub are_quiet : Statements → Bool
  are_quiet Nothing = true
  are_quiet (Then a p) = is_quiet a && are_quiet p

-- a loop
pub data IsLoop : Statement → Type 0 where
  walks : (at : Span) (ty : Spelled) (x : List ℕ) (e : Expression) (b : Statements) → IsLoop (plain.ForEach at ty x e b)
  repeats : (at : Span) (c : Expression) (b : Statements) → IsLoop (plain.While at c b)

-- it goes on, with the same lines, and with as many turns or fewer
pub record GoesQuietly (s : State) (q : Passed) : Type 0 where
  pub state : State
  pub is : q ≡ GoesOn state
  pub lines : state.lines ≡ s.lines
  pub turns : state.turns ≤ s.turns

-- The run and the loop may give way by what their text says, if the loop's going on answers what is asked: the
-- loop is quiet, and touches no variable that is visible after and isn't asked for.
pub record TextGivesWay (c : Frame) (g m : Types) (run : Statements) (loop : Statement) (r : Set) (ks : List Ask) : Type 0 where
  pub simple : are_simple run ≡ true
  pub reads : KeptRead r run
  pub fits : AllFit r g ks
  pub known : (x : List ℕ) (k : JavaType) → m x ≡ Some k → (r x || is_asked ks x) ≡ true
  pub loops : IsLoop loop
  pub quiet : is_quiet loop ≡ true
  pub untouched : (x : List ℕ) (k : JavaType) → m x ≡ Some k → is_asked ks x ≡ false → touches loop x ≡ false
  pub answers : (w : World) → IsWorld c w → (s : State) → IsTyped c.schema g s.store → (t : State) → meanings run w s ≡ Ok (GoesOn t) → (u : State) → meaning loop w t ≡ Ok (GoesOn u) → AllAnswered w g t u ks

-- In which states a run comes to a place.
use Rattle.std.specs.Prelude.{◌≡◌, ℕ, true, false, List, ◌∷◌, Ok}
use Rattle.qbs_base.specs.declared.span.Span.{Span}
use Rattle.qbs_base.specs.declared.scalar.Row.{Row}
use Rattle.qbs_base.specs.declared.scalar.Value.{Value}
use Rattle.java_ast.specs.Tree.{Spelled, Expression, Statement, Statements}
use Rattle.java_mean.specs.Expression.{value_of, as_rows, element}
use Rattle.java_mean.specs.Refines.{Hole, Here, Past, InIf, InThen, InElse, InEach, InWhile, fill}
use Rattle.java_mean.specs.Statement.{State, GoesOn, turn, with_variable, test_of, meaning, meanings}
use Rattle.java_mean.specs.Store.{plainly}
use Rattle.java_mean.specs.World.{World}

-- The run of statements with these at the place comes from the first state to the place with the second:
-- through what stands before it, and in a loop in any turn that is begun.
mutual
  pub data Reaches (w : World) (p : Statements) : Hole → State → State → Type 0 where
    here : (q : Statements) (s : State) → Reaches w p (Here q) s s
    past : (a : Statement) (h : Hole) (s u t : State) → meaning a w s ≡ Ok (GoesOn u) → Reaches w p h u t → Reaches w p (Past a h) s t
    in_if : (at : Span) (e : Expression) (h : Hole) (q : Statements) (s t : State) → test_of e w s.store ≡ Ok true → Reaches w p h s t → Reaches w p (InIf at e h q) s t
    in_then : (at : Span) (e : Expression) (h : Hole) (b q : Statements) (s t : State) → test_of e w s.store ≡ Ok true → Reaches w p h s t → Reaches w p (InThen at e h b q) s t
    in_else : (at : Span) (e : Expression) (a : Statements) (h : Hole) (q : Statements) (s t : State) → test_of e w s.store ≡ Ok false → Reaches w p h s t → Reaches w p (InElse at e a h q) s t
    in_each : (at : Span) (ty : Spelled) (x : List ℕ) (e : Expression) (h : Hole) (q : Statements) (v : Value) (rows : List Row) (s t : State) → value_of e w s.store ≡ Ok v → as_rows v ≡ Ok rows → ReachesEach w p h x rows s t → Reaches w p (InEach at ty x e h q) s t
    in_while : (at : Span) (e : Expression) (h : Hole) (q : Statements) (s t : State) → ReachesTurn w p h e s t → Reaches w p (InWhile at e h q) s t

  -- in the turn of the first of these rows, or in a later one
  pub data ReachesEach (w : World) (p : Statements) : Hole → List ℕ → List Row → State → State → Type 0 where
    in_this : (h : Hole) (x : List ℕ) (row : Row) (rows : List Row) (s u t : State) → turn s ≡ Ok u → Reaches w p h (with_variable u x (plainly (element row))) t → ReachesEach w p h x (row ∷ rows) s t
    in_later : (h : Hole) (x : List ℕ) (row : Row) (rows : List Row) (s u v t : State) → turn s ≡ Ok u → meanings (fill h p) w (with_variable u x (plainly (element row))) ≡ Ok (GoesOn v) → ReachesEach w p h x rows v t → ReachesEach w p h x (row ∷ rows) s t

  -- in the next turn of a loop with this condition, or in a later one
  pub data ReachesTurn (w : World) (p : Statements) : Hole → Expression → State → State → Type 0 where
    in_next : (h : Hole) (e : Expression) (s u t : State) → test_of e w s.store ≡ Ok true → turn s ≡ Ok u → Reaches w p h u t → ReachesTurn w p h e s t
    in_further : (h : Hole) (e : Expression) (s u v t : State) → test_of e w s.store ≡ Ok true → turn s ≡ Ok u → meanings (fill h p) w u ≡ Ok (GoesOn v) → ReachesTurn w p h e v t → ReachesTurn w p h e s t

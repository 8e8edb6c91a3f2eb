-- What it is for one run to do what another does in more turns.
use Rattle.std.specs.Prelude.{◌≡◌, ℕ, ◌+◌, ◌≤◌, Result, Ok, Err}
use Rattle.std.specs.declared.option.Option.{Option}
use Rattle.std.specs.declared.option.Option.TheVariants.{Some, None}
use Rattle.qbs_base.specs.declared.scalar.Value.{Value}
use Rattle.qbs_base.specs.Values.{Schema}
use Rattle.java_ast.specs.Tree.{Statements}
use Rattle.java_mean.specs.declared.ending.Ending.{Ending}
use Rattle.java_mean.specs.Refines.{Alike}
use Rattle.java_mean.specs.Statement.{State, Passed, GoesOn, Leaves, Returns, Does}
use Rattle.java_mean.specs.Types.{Types}
use Rattle.java_mean.specs.Typing.{Frame, IsWorld}
use Rattle.java_mean.specs.World.{World}
use Rattle.java_mean.specs.Statement.{meanings}

abbrev pub with_turns : ℕ → State → State
with_turns n s = record { store = s.store; lines = s.lines; turns = n }

-- The second run passes in the same way from this state, with so many turns more than the first has, to a state that is alike, and as many
-- turns are left as the first leaves. The first gives no turn back.
pub record CoversTo (schema : Schema) (h : Types) (way : State → Passed) (s u t : State) (g : Does) : Type 0 where
  pub extra : ℕ
  pub state : State
  pub passes : g (with_turns (s.turns + extra) t) ≡ Ok (way state)
  pub alike : Alike schema h u state
  pub left : state.turns ≡ u.turns
  pub spent : u.turns ≤ s.turns

-- It returns with this value and the same lines.
pub record CoversBack (s u t : State) (v : Option Value) (g : Does) : Type 0 where
  pub extra : ℕ
  pub state : State
  pub passes : g (with_turns (s.turns + extra) t) ≡ Ok (Returns state v)
  pub lines : u.lines ≡ state.lines

abbrev pub leaving : Option Types → Types
leaving (Some b) = b
leaving None = λ x. None

abbrev pub Covered : Schema → Option Types → Types → State → State → Result Passed Ending → Does → Type 0
Covered schema l h s t (Ok (GoesOn u)) g = CoversTo schema h GoesOn s u t g
Covered schema l h s t (Ok (Leaves u)) g = CoversTo schema (leaving l) Leaves s u t g
Covered schema l h s t (Ok (Returns u v)) g = CoversBack s u t v g
Covered schema l h s t (Err e) g = Unit {0}

-- From states that are alike on the first types, where the first statements pass the others pass too, given more turns, in the same
-- way, to states that are alike on the second types, or where they leave a loop on those at its body's start.
pub record Covers (c : Frame) (l : Option Types) (g h : Types) (p q : Statements) : Type 0 where
  pub by : (w : World) → IsWorld c w → (s t : State) → Alike c.schema g s t → Covered c.schema l h s t (meanings p w s) (meanings q w)

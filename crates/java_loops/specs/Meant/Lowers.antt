-- What the code gives for a loop of the kernel form, and that it means the loop.
use Rattle.std.specs.Prelude.{◌≡◌, ℕ, ◌≤◌, true, false, List, Ok}
use Rattle.std.specs.declared.option.Option.{Option}
use Rattle.std.specs.declared.option.Option.TheVariants.{Some, None}
use Rattle.qbs_base.specs.Named.{at_name}
use Rattle.qbs_base.specs.Values.{Schema}
use Rattle.sql_ast.specs.Tree.{PlainQuery}
use Rattle.java_ast.specs.Tree.{Statements, PlainProgram}
use Rattle.java_mean.specs.Asks.{frame_of}
use Rattle.java_mean.specs.Statement.{State, GoesOn, meaning, meanings}
use Rattle.java_mean.specs.Types.{Types, IsTyped}
use Rattle.java_mean.specs.Typing.{Frame, IsWorld}
use Rattle.java_mean.specs.World.{World}
use Rattle.java_mean.specs.declared.types.JavaType.{JavaType}
use Rattle.java_loops.specs.Walks.Replacing.{seen_at}
use Rattle.loop_text.specs.Statements.Fragment.{accumulators, is_live}
use Rattle.java_loops.specs.Kernel.Kernel.{broken, lowering, setting_at}
use Rattle.loop_text.specs.Statements.KeptStatements.{first_at, AreKept}
use Rattle.java_loops.specs.Lowering.Lowered.{Lowering}
use Rattle.java_ast.specs.Names.{names_read, is_among}
use Rattle.java_loops.specs.Meant.Means.{MeansItsLoopThere}
use Rattle.java_loops.specs.Kernel.Setting.{Setting}

-- The lowered fragment is that of the loop to which the path leads, which breaks no rule; the number is that of the first
-- statement of the run, and the numbers are those of the kept statements.
pub record IsLowered (schema : Schema) (read : List ℕ → Option PlainQuery) (p : PlainProgram) (path : List ℕ) (l : Lowering) (first : ℕ) (kept : List ℕ) : Type 0 where
  pub setting : Setting
  pub there : setting_at schema read path p ≡ Some setting
  pub unbroken : broken setting ≡ None
  pub lowered : lowering setting ≡ l
  pub begins : first_at path p ≡ Some first
  pub keeps : AreKept setting.fragment (names_read l.entries) first setting.fragment.run kept

-- ---- What is kept

-- Statements pass where a run and its loop go from the first state to the second: they leave each live variable that is
-- visible at the loop and no accumulator as these do, print the same, and make no more turns.
pub record LeaveTheRest (w : Setting) (world : World) (kept : Statements) (s t : State) : Type 0 where
  pub state : State
  pub passes : meanings kept world s ≡ Ok (GoesOn state)
  pub same : (x : List ℕ) (k : JavaType) → w.types x ≡ Some k → is_live w.fragment x ≡ true → is_among (accumulators w.fragment) x ≡ false → at_name state.store x ≡ at_name t.store x
  pub lines : state.lines ≡ t.lines
  pub turns : t.turns ≤ state.turns

-- They do so wherever the run and the loop pass, on a database of the schema and from a state that is typed before them.
abbrev pub StandForTheRest : Frame → Types → Setting → Statements → Type 0
StandForTheRest c before w kept =
    (world : World) → IsWorld c world
    → (s t u : State) → IsTyped c.schema before s.store
    → meanings w.fragment.run world s ≡ Ok (GoesOn t)
    → meaning w.fragment.loop world t ≡ Ok (GoesOn u)
    → LeaveTheRest w world kept s u

-- The loop means what its fragment says, and these statements leave the rest as the run and the loop do.
pub record IsMeant (schema : Schema) (read : List ℕ → Option PlainQuery) (p : PlainProgram) (path : List ℕ) (w : Setting) (kept : Statements) : Type 0 where
  pub there : MeansItsLoopThere schema read p path w
  pub rest : StandForTheRest (frame_of schema read there.method) (seen_at schema there.method there.hole) w kept

-- What it is for the lowered fragment of a loop to mean the loop.
use Rattle.std.specs.Prelude.{◌≡◌, ℕ, ◌≤◌, false, List, ◌∷◌, map, Ok, slice_get}
use Rattle.std.specs.declared.option.Option.{Option}
use Rattle.std.specs.declared.option.Option.TheVariants.{Some}
use Rattle.qbs_base.specs.declared.scalar.Scalar.{Scalar}
use Rattle.qbs_base.specs.declared.scalar.Value.{Value}
use Rattle.qbs_base.specs.declared.scalar.Value.TheVariants.{One, Many}
use Rattle.qbs_base.specs.Named.{at_name}
use Rattle.qbs_base.specs.Values.{Schema, AreOf}
use Rattle.sql_ast.specs.Tree.{PlainQuery}
use Rattle.java_ast.specs.Tree.{Expression, Statements, PlainMethod, PlainProgram}
use Rattle.java_mean.specs.Asks.{frame_of}
use Rattle.java_mean.specs.Expression.{value_of, alone}
use Rattle.java_mean.specs.Queries.{Rows}
use Rattle.java_mean.specs.Refines.{Hole, fill}
use Rattle.java_mean.specs.Statement.{State, Passed, GoesOn, meaning, meanings}
use Rattle.java_mean.specs.Store.{Store, Variable}
use Rattle.java_mean.specs.Types.{Types, types_past, IsTyped}
use Rattle.java_mean.specs.declared.types.JavaType.{JavaType}
use Rattle.java_mean.specs.Typing.{Frame, IsWorld}
use Rattle.java_mean.specs.World.{World}
use Rattle.java_loops.specs.Walks.Replacing.{run_and_loop, seen_at}
use Rattle.kernel_lang.specs.declared.parts.Entry.{Entry}
use Rattle.kernel_lang.specs.Fitting.{PartsFit}
use Rattle.kernel_lang.specs.Running.{fragment_end}
use Rattle.loop_text.specs.Statements.Fragment.{accumulators, counter, is_name}
use Rattle.java_loops.specs.Kernel.Kernel.{lowering}
use Rattle.loop_text.specs.Kernel.KernelConditions.{Asked, asked_for}
use Rattle.java_loops.specs.Lowering.Lowered.{needed_in_order}
pub use Rattle.java_loops.specs.Meant.Members.{AreMatched}
use Rattle.java_loops.specs.Meant.Members.{HaveSameMembers}
use Rattle.java_ast.specs.Names.{is_among}
use Rattle.java_loops.specs.Lowering.Numbering.{numbers_of, arguments}
use Rattle.java_loops.specs.Kernel.Setting.{Setting}

-- the expression has this scalar for its value
abbrev pub HasScalar : World → Store → Expression → Scalar → Type 0
HasScalar w s e x = value_of e w s ≡ Ok (One x)

-- the variable has this value
pub record HasValue (s : Store) (x : List ℕ) (v : Value) : Type 0 where
  pub held : Variable
  pub there : at_name s x ≡ Some held
  pub is : held.value ≡ v

-- the variable is a list or set of these scalars
abbrev pub HasScalars : Store → List ℕ → List Scalar → Type 0
HasScalars s x xs = HasValue s x (Many (map alone xs))

-- The query that the run gives to the variable answers scalars to the values of its arguments in this store, and the list
-- has the same members.
pub record IsAnswered (w : World) (s : Store) (run : Statements) (x : List ℕ) (xs : List Scalar) : Type 0 where
  pub asked : Asked
  pub found : asked_for run x ≡ Some asked
  pub values : List Scalar
  pub arguments : AreMatched (HasScalar w s) (arguments asked.arguments) values
  pub answer : List Scalar
  pub answered : w.ask asked.text values ≡ Some (Rows (map alone answer))
  pub members : HaveSameMembers xs answer

-- The list is the whole answer of the query that the run gives to the variable, to the values of its arguments in this store.
pub record IsWholeAnswer (w : World) (s : Store) (run : Statements) (x : List ℕ) (xs : List Scalar) : Type 0 where
  pub asked : Asked
  pub found : asked_for run x ≡ Some asked
  pub values : List Scalar
  pub arguments : AreMatched (HasScalar w s) (arguments asked.arguments) values
  pub answered : w.ask asked.text values ≡ Some (Rows (map alone xs))

-- The loop goes from the first state to the second as its fragment says: on the lists of the database, with the entry
-- values and known lists that are there at the loop, the fragment's parts fit and it ends without overflow, and each
-- needed accumulator has its value. The known lists have the members of what their queries answer at the loop. All other
-- visible variables but a counter are as they were, nothing is printed, and no turns are made.
pub record EndsAsItsFragment (w : Setting) (world : World) (s t : State) : Type 0 where
  pub entry : Entry
  pub entries : AreMatched (HasScalar world s.store) (lowering w).entries entry.values
  pub typed : AreOf (lowering w).fragment.entries entry.values
  pub known : AreMatched (HasScalars s.store) (numbers_of w).known entry.known
  pub answered : AreMatched (IsAnswered world s.store w.fragment.run) (numbers_of w).known entry.known
  pub fits : PartsFit (lowering w).fragment world.db entry
  pub values : List Value
  pub ends : fragment_end (lowering w).fragment world.db entry ≡ Some values
  pub left : AreMatched (HasValue t.store) (needed_in_order w) values
  pub others : (x : List ℕ) (k : JavaType) → w.types x ≡ Some k → is_among (accumulators w.fragment) x ≡ false → is_name (counter w.fragment.loop) x ≡ false → at_name t.store x ≡ at_name s.store x
  pub lines : t.lines ≡ s.lines
  pub turns : t.turns ≤ s.turns

-- the loop goes on, as its fragment says
pub record GoesOnAsItsFragment (w : Setting) (world : World) (s : State) (q : Passed) : Type 0 where
  pub state : State
  pub is : q ≡ GoesOn state
  pub ends : EndsAsItsFragment w world s state

-- Wherever the run and the loop pass, on a database of the schema and from a state that is typed before them, the loop
-- goes on as its fragment says.
abbrev pub MeansItsLoop : Frame → Types → Setting → Type 0
MeansItsLoop c before w =
    (world : World) → IsWorld c world
    → (s t : State) → IsTyped c.schema before s.store
    → meanings w.fragment.run world s ≡ Ok (GoesOn t)
    → (q : Passed) → meaning w.fragment.loop world t ≡ Ok q
    → GoesOnAsItsFragment w world t q

-- The setting is that of a run and its loop, which stand in the method with the path's first number, under the types that
-- are visible behind the run; and the loop means there what its fragment says.
pub record MeansItsLoopThere (schema : Schema) (read : List ℕ → Option PlainQuery) (p : PlainProgram) (path : List ℕ) (w : Setting) : Type 0 where
  pub number : ℕ
  pub rest : List ℕ
  pub leads : path ≡ number ∷ rest
  pub method : PlainMethod
  pub found : slice_get p.methods number ≡ Some method
  pub hole : Hole
  pub stands : method.body ≡ fill hole (run_and_loop w.fragment.run w.fragment.loop)
  pub types : w.types ≡ types_past schema (seen_at schema method hole) w.fragment.run
  pub means : MeansItsLoop (frame_of schema read method) (seen_at schema method hole) w

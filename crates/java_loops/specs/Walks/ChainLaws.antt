-- What is proved of chains.
use Rattle.std.specs.Prelude.{◌≡◌, ℕ, Bool, true, false, List, [], ◌∷◌, Option, Some, None, Ok, slice_get, if◌then◌else◌, suc}
use Rattle.std.specs.Str.{bytes_eq}
use Rattle.std.specs.List.{AllByRecursion}
use Rattle.std.specs.Option.{option_map}
use Rattle.qbs_base.specs.declared.columns.Column.{Column}
use Rattle.qbs_base.specs.declared.scalar.Row.{Row}
use Rattle.qbs_base.specs.declared.scalar.Scalar.{Scalar}
use Rattle.qbs_base.specs.declared.scalar.Value.{Value}
use Rattle.qbs_base.specs.Values.{IsRowOf}
use Rattle.qbs_base.specs.Columns.{columns_at}
use Rattle.java_ast.specs.Tree.{Expression, Statement, Statements}
use Rattle.java_mean.specs.Expression.{element}
use Rattle.java_mean.specs.Numbers.{literal_fits}
use Rattle.java_mean.specs.Statement.{test_of}
use Rattle.java_mean.specs.Store.{Store, Variable, put, plainly}
use Rattle.java_mean.specs.World as java
use Rattle.tor_terms.specs.declared.term.Atom.{Atom}
use Rattle.tor_terms.specs.Plain.{Form}
use Rattle.tor_terms.specs.Truth.{Datum, World, same_bool, holds}
use Rattle.kernel_lang.specs.declared.parts.Update.{Update}
use Rattle.kernel_lang.specs.declared.parts.Entry.{Entry}
use Rattle.kernel_lang.specs.Fitting.{atom_places, element_places, ColumnFits, AtomFits, UpdateFits, PartsFit}
use Rattle.kernel_lang.specs.Given.{list_at, world_given}
use Rattle.kernel_lang.specs.Validity.{element_of, start_is_valid}
use Rattle.kernel_lang.specs.Plain.{Accumulator, Fragment}
use Rattle.kernel_lang.specs.Running.{Layer, layer, with_row, passes, each_row, run, started, layers_of, with_flags, accumulated, ends_as, and_then, fragment_end}
use Rattle.java_loops.specs.Walks.Carried.{variable_of, Suits, Carried, done_where, read_in}
use Rattle.java_loops.specs.Walks.ChainStarts.{Begins, IsMade}
use Rattle.java_loops.specs.Walks.Chains.{Change, By, joined, IsChain, AreChain, Settles}
use Rattle.java_loops.specs.Walks.Effects.{settled, folded, effect, effects}
use Rattle.java_loops.specs.Walks.Forms.{IsAtom, IsForm}
use Rattle.java_loops.specs.Walks.Matched.{Matches}
use Rattle.java_loops.specs.Walks.Numbering.{Numbering, Flags, no_flags, with_loop, with_loops, IsApart, IsNewLoop, Extends}

-- the condition has a truth value, and the formula holds where it is the one that the polarity says
pub record HasTruth (w : java.World) (k : World) (known : List Atom) (env : Store) (rows : ℕ → Row) (polarity : Bool) (e : Expression) (f : Form) : Type 0 where
  pub truth : Bool
  pub test : test_of e w env ≡ Ok truth
  pub is : holds k known rows f ≡ same_bool polarity truth

abbrev pub FormulasAreTests : Type 0
FormulasAreTests =
    (known : List Atom) (n : Numbering) (flags : Flags) (polarity : Bool) (e : Expression) (f : Form) (w : java.World) (k : World) (env : Store) (rows : ℕ → Row)
    → IsForm known n flags polarity e f
    → Matches n flags w k env rows
    → HasTruth w k known env rows polarity e f

-- a list with more at its end, or the list itself
abbrev pub Prolongs : List Atom → List Atom → Type 0
Prolongs known more = (i : ℕ) (a : Atom) → slice_get known i ≡ Some a → slice_get more i ≡ Some a

-- formulas stay those of their conditions where more atoms, entry values and known lists get numbers
abbrev pub FormulasStay : Type 0
FormulasStay =
    (known more : List Atom) (n n' : Numbering) (flags : Flags) (polarity : Bool) (e : Expression) (f : Form)
    → Prolongs known more
    → Extends n n'
    → IsForm known n flags polarity e f
    → IsForm more n' flags polarity e f

-- the operands of an atom fit at all rows of its lists, and its columns have scalars of one variant
abbrev pub AtomsFit : Type 0
AtomsFit =
    (n : Numbering) (f : Fragment) (w : java.World) (env : Store) (entry : Entry) (loops : List ℕ → Option ℕ) (flags : Flags) (e : Expression) (a : Atom) (s : Bool)
    → Begins n f w env entry
    → IsAtom (with_loops loops n) flags e a s
    → AtomFits (world_given f w.db entry) a × AllByRecursion (ColumnFits f w.db) (atom_places a)

-- what is added and compared is a number at all rows of its list, and an update's column has scalars of one variant
abbrev pub UpdatesFit : Type 0
UpdatesFit =
    (n : Numbering) (f : Fragment) (w : java.World) (env : Store) (entry : Entry) (loops : List ℕ → Option ℕ) (quiet : Bool) (flags : Flags) (s : Statement) (a : List ℕ) (fs : List Form) (ys : List Layer) (u : Update) (opposite : Bool)
    → Begins n f w env entry
    → IsChain f quiet (with_loops loops n) flags s a fs ys (By u opposite)
    → UpdateFits (world_given f w.db entry) u × AllByRecursion (ColumnFits f w.db) (element_places (element_of u))

-- a column of a loop's table has scalars of one variant
abbrev pub ColumnsFit : Type 0
ColumnsFit =
    (n : Numbering) (f : Fragment) (w : java.World) (env : Store) (entry : Entry) (j c : ℕ) (column : Column)
    → Begins n f w env entry
    → slice_get (columns_at n.schema (n.tables j)) c ≡ Some column
    → ColumnFits f w.db (j, c)

-- a fragment whose parts stand for conditions and statements fits the database and what it is given
abbrev pub PartsOfLoopsFit : Type 0
PartsOfLoopsFit = (n : Numbering) (f : Fragment) (w : java.World) (env : Store) (entry : Entry) → Begins n f w env entry → IsMade f n entry → PartsFit f w.db entry

-- a start that is a literal of the program has 64 bits where it is a number
abbrev pub StartFits : Option Scalar → Type 0
StartFits None = Unit {0}
StartFits (Some x) = literal_fits x ≡ true

-- a valid start is of the kind that the update keeps
abbrev pub StartsSuit : Type 0
StartsSuit = (u : Update) (opposite : Bool) (start : Option Scalar) → start_is_valid u start ≡ true → StartFits start → Suits (By u opposite) (started start)

-- where the fragment begins, the store and the world that it is given hold the same
abbrev pub BeginningsMatch : Type 0
BeginningsMatch =
    (n : Numbering) (f : Fragment) (w : java.World) (env : Store) (entry : Entry) (quiet : Bool) (rows : ℕ → Row)
    → Begins n f w env entry
    → Matches n no_flags w (read_in f quiet (world_given f w.db entry)) env rows

-- a statement makes of the variable what the run makes of its list, where the conditions hold
abbrev pub StatementsAreRuns : Type 0
StatementsAreRuns =
    (f : Fragment) (quiet : Bool) (n : Numbering) (flags : Flags) (s : Statement) (a : List ℕ) (fs : List Form) (ys : List Layer) (ch : Change) (w : java.World) (k : World) (env : Store) (rows : ℕ → Row) (d : List Datum)
    → IsChain f quiet n flags s a fs ys ch
    → IsApart n a
    → flags a ≡ None
    → Matches n flags w (read_in f quiet k) env rows
    → Suits ch d
    → Carried ch (effect s w a env (variable_of ch d)) (done_where (read_in f quiet k) f.atoms ch fs ys rows d)

-- the statements of a block likewise
abbrev pub BlocksAreRuns : Type 0
BlocksAreRuns =
    (f : Fragment) (quiet : Bool) (n : Numbering) (flags : Flags) (bs : List (List ℕ)) (p : Statements) (a : List ℕ) (fs : List Form) (ys : List Layer) (ch : Change) (w : java.World) (k : World) (env : Store) (rows : ℕ → Row) (d : List Datum)
    → AreChain f quiet n flags bs p a fs ys ch
    → IsApart n a
    → flags a ≡ None
    → Matches n flags w (read_in f quiet k) env rows
    → Suits ch d
    → Carried ch (effects p bs w a env (variable_of ch d)) (done_where (read_in f quiet k) f.atoms ch fs ys rows d)

-- after a statement the store has the flags that it sets as their own runs say
abbrev pub FlagsAreRuns : Type 0
FlagsAreRuns =
    (f : Fragment) (quiet : Bool) (n : Numbering) (flags : Flags) (s : Statement) (bs : List (List ℕ)) (flags' : Flags) (w : java.World) (k : World) (env : Store) (rows : ℕ → Row)
    → Settles f quiet n flags s bs flags'
    → Matches n flags w (read_in f quiet k) env rows
    → Matches n flags' w (read_in f quiet k) (settled bs (effect s w) env) rows

-- one turn of a loop of the fragment
abbrev pub turn_of : List Atom → World → Update → List Form → List Layer → (ℕ → Row) → ℕ → Row → List Datum → Option (List Datum)
turn_of known k u gs ys rows j row d = if passes k known (with_row rows j row) (joined gs) then run k known u ys (with_row rows j row) d else Some d

-- the turns of a loop over any rows of its table, one after the other
abbrev pub LoopsAreRuns : Type 0
LoopsAreRuns =
    (f : Fragment) (quiet : Bool) (n : Numbering) (flags : Flags) (x : List ℕ) (p : Statements) (a : List ℕ) (j : ℕ) (gs : List Form) (ys : List Layer) (u : Update) (opposite : Bool) (w : java.World) (k : World) (env : Store) (rows : ℕ → Row) (members : List Row) (d : List Datum)
    → AreChain f quiet (with_loop x j n) flags [] p a gs ys (By u opposite)
    → IsApart n x
    → flags x ≡ None
    → bytes_eq x a ≡ false
    → IsNewLoop n flags j
    → IsApart n a
    → flags a ≡ None
    → Matches n flags w (read_in f quiet k) env rows
    → AllByRecursion (IsRowOf (n.tables j) (columns_at n.schema (n.tables j))) members
    → Suits (By u opposite) d
    → Carried (By u opposite) (folded members (λ row. effects p [] w a (put env x (plainly (element row)))) (variable_of (By u opposite) d)) (each_row members (turn_of f.atoms (read_in f quiet k) u gs ys rows j) d)

-- an accumulator of the fragment is that of the variable a of the loop s
pub record IsAccumulator (f : Fragment) (n : Numbering) (s : Statement) (a : List ℕ) (acc : Accumulator) : Type 0 where
  pub apart : IsApart n a
  pub chain : IsChain f false n no_flags s a [] (layers_of acc) (By acc.update acc.opposite)
  pub start : Suits (By acc.update acc.opposite) (started acc.start)

abbrev pub start_of : Accumulator → Variable
start_of acc = variable_of (By acc.update acc.opposite) (started acc.start)

abbrev pub value_in : Variable → Value
value_in v = v.value

-- the loop makes of the variable what the fragment ends with
abbrev pub AccumulatorsAreRuns : Type 0
AccumulatorsAreRuns =
    (f : Fragment) (n : Numbering) (s : Statement) (a : List ℕ) (acc : Accumulator) (w : java.World) (k : World) (env : Store)
    → IsAccumulator f n s a acc
    → Matches n no_flags w (with_flags f k) env k.current
    → Carried (By acc.update acc.opposite) (effect s w a env (start_of acc)) (accumulated f k acc)

abbrev pub AccumulatorsEndAs : Type 0
AccumulatorsEndAs =
    (f : Fragment) (n : Numbering) (s : Statement) (a : List ℕ) (acc : Accumulator) (w : java.World) (env : Store) (entry : Entry)
    → Begins n f w env entry
    → IsAccumulator f n s a acc
    → option_map value_in (effect s w a env (start_of acc)) ≡ ends_as f (world_given f w.db entry) acc

-- the variables of the loop s and their accumulators are those of these accumulators that stand outside all loops
pub data AreAccumulators (f : Fragment) (n : Numbering) (s : Statement) : List (List ℕ × Accumulator) → List Accumulator → Type 0 where
  no_more : AreAccumulators f n s [] []
  outer : (a : List ℕ) (acc : Accumulator) (named : List (List ℕ × Accumulator)) (accs : List Accumulator) → acc.base ≡ 0 → IsAccumulator f n s a acc → AreAccumulators f n s named accs → AreAccumulators f n s ((a, acc) ∷ named) (acc ∷ accs)
  inner : (base : ℕ) (acc : Accumulator) (named : List (List ℕ × Accumulator)) (accs : List Accumulator) → acc.base ≡ suc base → AreAccumulators f n s named accs → AreAccumulators f n s named (acc ∷ accs)

-- what the loop makes of these variables, each by itself, and none where one has a fault
abbrev pub all_become : Statement → java.World → Store → List (List ℕ × Accumulator) → Option (List Value)
all_become s w env [] = Some []
all_become s w env (p ∷ rest) = and_then (option_map value_in (effect s w p.0 env (start_of p.1))) (all_become s w env rest)

-- the loop makes of all variables what the fragment ends with
abbrev pub FragmentsEndAs : Type 0
FragmentsEndAs =
    (f : Fragment) (n : Numbering) (s : Statement) (named : List (List ℕ × Accumulator)) (w : java.World) (env : Store) (entry : Entry)
    → Begins n f w env entry
    → AreAccumulators f n s named f.accs
    → all_become s w env named ≡ fragment_end f w.db entry

-- an accumulator of the fragment is that of the variable a in the turns of a loop j over x with the body p
pub record IsTurned (f : Fragment) (n : Numbering) (x : List ℕ) (j : ℕ) (p : Statements) (a : List ℕ) (gs : List Form) (ys : List Layer) (acc : Accumulator) : Type 0 where
  pub apart : IsApart n a
  pub variable : IsApart n x
  pub other : bytes_eq x a ≡ false
  pub new : IsNewLoop n no_flags j
  pub chain : AreChain f false (with_loop x j n) no_flags [] p a gs ys (By acc.update acc.opposite)
  pub layers : layers_of acc ≡ layer j (joined gs) ∷ ys
  pub start : Suits (By acc.update acc.opposite) (started acc.start)

-- the turns over the list of the loop make of the variable what the fragment ends with, whatever statement makes them
abbrev pub TurnsEndAs : Type 0
TurnsEndAs =
    (f : Fragment) (n : Numbering) (x : List ℕ) (j : ℕ) (p : Statements) (a : List ℕ) (gs : List Form) (ys : List Layer) (acc : Accumulator) (w : java.World) (env : Store) (entry : Entry)
    → Begins n f w env entry
    → IsTurned f n x j p a gs ys acc
    → option_map value_in (folded (list_at w.db (slice_get f.lists j)) (λ row. effects p [] w a (put env x (plainly (element row)))) (start_of acc)) ≡ ends_as f (world_given f w.db entry) acc

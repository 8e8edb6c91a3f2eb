-- What is asked of a loop whose asks have what its fragment ends with.
use Rattle.std.specs.Prelude.{◌≡◌, ℕ, ◌<◌, true, false, List, [], ◌∷◌, length, bytes_eq, codes, Ok}
use Rattle.std.specs.declared.option.Option.{Option}
use Rattle.std.specs.declared.option.Option.TheVariants.{Some, None}
use Rattle.qbs_base.specs.Values.{Schema, AreOf}
use Rattle.kernel_lang.specs.declared.parts.Entry.{Entry}
use Rattle.sql_ast.specs.Tree.{PlainQuery}
use Rattle.sql_ast.specs.Valid.{IsQueryOf}
use Rattle.sql_parts.specs.Given.{IsGiven}
use Rattle.sql_parts.specs.Numbered.{Emission}
use Rattle.vc_gen.specs.Soundness.{EndsAnywhere}
use Rattle.java_ast.specs.Tree.{Spelled, PlainProgram}
use Rattle.java_mean.specs.declared.types.JavaType.{JavaType}
use Rattle.java_mean.specs.Places.{Around, in_expression}
use Rattle.java_mean.specs.declared.types.Kindred.TheVariants.{Only}
use Rattle.java_mean.specs.Rules.{type_of, is_set_of_rows, copied_row, aliased, is_walked}
use Rattle.java_mean.specs.Statement.{State, GoesOn, meanings}
use Rattle.java_mean.specs.Types.{Types, IsTyped, type_spelled}
use Rattle.java_mean.specs.Typing.{Frame, HasType, IsWorld}
use Rattle.java_mean.specs.Visible.{Visible, is_visible, type_at}
use Rattle.java_mean.specs.WellTyped.{faults_in}
use Rattle.java_mean.specs.World.{World}
use Rattle.java_ast.specs.Names.{is_among, names_read}
use Rattle.java_loops.specs.Kernel.Kernel.{lowering}
use Rattle.java_loops.specs.Kernel.Setting.{Setting}
use Rattle.java_loops.specs.Lowering.Lowered.{needed_in_order}
use Rattle.java_loops.specs.Lowering.Numbering.{numbers_of}
use Rattle.java_loops.specs.Meant.Means.{AreMatched, HasScalar, IsWholeAnswer}
use Rattle.java_loops.specs.Walks.Reads.{Set}
use Rattle.java_loops.specs.Walks.Replacing.{Ask, is_asked}
use Rattle.lowering.specs.Asked.{queries_in, IsKernelLoop, HasQueriesOf}
use Rattle.rewrite_core.specs.Asked.{emitted_for}

-- what is emitted for the needed accumulators of a loop with this candidate is of the grammar of queries
abbrev pub QueriesAreValid : Setting → List ℕ → Type 0
QueriesAreValid w candidate = (k : ℕ) (e : Emission) → k < length (needed_in_order w) → emitted_for w candidate k ≡ Some e → IsQueryOf w.schema e.query

-- a loop of the kernel form, whose known queries and the queries that are emitted for this candidate are of the schema
pub record HasAsks (schema : Schema) (read : List ℕ → Option PlainQuery) (p : PlainProgram) (path : List ℕ) (w : Setting) (candidate : List ℕ) : Type 0 where
  pub loop : IsKernelLoop schema read p path w
  pub known : HasQueriesOf schema (lowering w)
  pub emitted : QueriesAreValid w candidate

-- A loop of the kernel form, whose known queries and emitted queries are of the schema, with a candidate whose postconditions
-- say what the lowered fragment ends with, wherever it ends.
pub record MayBeAsked (schema : Schema) (read : List ℕ → Option PlainQuery) (p : PlainProgram) (path : List ℕ) (w : Setting) (candidate : List ℕ) : Type 0 where
  pub loop : IsKernelLoop schema read p path w
  pub known : HasQueriesOf schema (lowering w)
  pub emitted : QueriesAreValid w candidate
  pub ends : EndsAnywhere (lowering w).fragment candidate

-- ---- Types

-- the types agree on what the fragment's entry values read
abbrev pub AgreeOnEntries : Setting → Types → Type 0
AgreeOnEntries w g = (x : List ℕ) (k : JavaType) → is_among (names_read (lowering w).entries) x ≡ true → w.types x ≡ Some k → g x ≡ Some k

-- where these types are visible, an ask's expression has the type that its variable has at the loop
pub record IsTypedAsk (c : Frame) (w : Setting) (g : Types) (k : Ask) : Type 0 where
  pub type : JavaType
  pub visible : w.types k.name ≡ Some type
  pub value : HasType c g k.value type

-- ---- Rules

-- what the fragment's entry values read is visible, with its type at the loop
abbrev pub SeesEntries : Setting → Visible → Type 0
SeesEntries w vs = (x : List ℕ) (k : JavaType) → is_among (names_read (lowering w).entries) x ≡ true → w.types x ≡ Some k → (is_visible vs x ≡ true) × (type_at vs x ≡ Some k)

-- where this is visible, an ask's expression breaks no rule, and is of the type that its variable has at the loop
pub record IsFaultlessAsk (schema : Schema) (read : List ℕ → Option PlainQuery) (result : Option Spelled) (w : Setting) (vs : Visible) (k : Ask) : Type 0 where
  pub type : JavaType
  pub visible : w.types k.name ≡ Some type
  pub kindred : type_of schema vs k.value ≡ Some (Only type)
  pub faultless : faults_in schema read result (in_expression vs k.value) ≡ []
  pub copies_no_row : copied_row vs k.value ≡ []
  pub aliases_nothing : (o : Option JavaType) (x : List ℕ) → aliased o x k.value ≡ []

-- An ask may stand at a place: what it declares isn't visible there and has a name and a type that may be declared, of the type
-- that it has at the loop; what it assigns is visible with that type, and isn't walked.
abbrev pub MayStand : Schema → Around → Types → Types → Option Spelled → List ℕ → Type 0
MayStand schema round at_loop g (Some ty) x =
    (g x ≡ None) × (bytes_eq x (codes "db") ≡ false) × (is_set_of_rows ty ≡ false) × (type_spelled schema ty ≡ at_loop x)
MayStand schema round at_loop g None x = (g x ≡ at_loop x) × (is_walked round x ≡ false)

-- all of them may, and each is for a variable of its own
abbrev pub AllMayStand : Schema → Around → Types → Types → List Ask → Type 0
AllMayStand schema round at_loop g [] = Unit {0}
AllMayStand schema round at_loop g (k ∷ ks) = MayStand schema round at_loop g k.ty k.name × (is_asked ks k.name ≡ false) × AllMayStand schema round at_loop g ks

-- the types are alike on a set
abbrev pub AlikeOn : Set → Types → Types → Type 0
AlikeOn f g h = (x : List ℕ) → f x ≡ true → g x ≡ h x

-- what is visible has types, and these
pub record Sees (vs : Visible) (g : Types) : Type 0 where
  pub same : (x : List ℕ) → type_at vs x ≡ g x
  pub known : (x : List ℕ) → is_visible vs x ≡ true → (k : JavaType) × (type_at vs x ≡ Some k)

-- In a world of the frame, from a typed store: entry values and whole answers of the known queries that are there behind the
-- run are a database, values and known lists as emission asks for them.
abbrev pub IsGivenThere : Frame → Types → Setting → Type 0
IsGivenThere c before w =
    (world : World) → IsWorld c world
    → (s t : State) → IsTyped c.schema before s.store
    → meanings w.fragment.run world s ≡ Ok (GoesOn t)
    → (entry : Entry)
    → AreMatched (HasScalar world t.store) (lowering w).entries entry.values
    → AreOf (lowering w).fragment.entries entry.values
    → AreMatched (IsWholeAnswer world t.store w.fragment.run) (numbers_of w).known entry.known
    → IsGiven c.schema (lowering w).fragment (queries_in (lowering w).known) (lowering w).arguments world.db entry

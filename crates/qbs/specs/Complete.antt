-- Which statuses a command ends with where all that it reads is right.
use Rattle.std.specs.Prelude.{◌≡◌, ◌≤◌, ◌⊎◌, ℕ, List, Bool, true, false, length}
use Rattle.std.specs.declared.option.Option.{Option}
use Rattle.std.specs.declared.option.Option.TheVariants.{Some, None}
use Rattle.qbs_base.specs.declared.columns.Table.{Table}
use Rattle.qbs_base.specs.declared.status.Status.{Status}
use Rattle.qbs_base.specs.Values.{Schema, Database}
use Rattle.java_ast.specs.Tree.{PlainProgram}
use Rattle.deriv_check.specs.Bundles.{Entry}
use Rattle.deriv_check.specs.Grammar.{HasBundle}
use Rattle.small_dbs.specs.declared.small.SmallDb.{SmallDb}
use Rattle.proof_store.specs.Grammar.{HasStore}
use Rattle.sql_ast.specs.Tree.{PlainQuery}
use Rattle.view_map.specs.declared.model.ViewMap.{ViewMap}
use Rattle.words.specs.declared.command.Command.{Command}
use Rattle.words.specs.declared.command.Command.TheVariants as commands
use Rattle.words.specs.Plain.{HasWords}
use Rattle.plans.specs.Calls.{Call, Called, Calls}
use Rattle.plans.specs.Opening.{IsSchemaOf, IsMapOf, IsProgramOf}
use Rattle.deliveries.specs.Limits.{most_map, most_schema, most_source, most_bundle, most_tables, most_dump, most_entities, most_store}
use Rattle.deliveries.specs.Named.{AreHeld}
use Rattle.deliveries.specs.Plan.{Given}
use Rattle.plans.specs.Tables.{table_files, HasRows}
use Rattle.qbs.specs.Commands.{is_built}
use Rattle.inlining.specs.Inlined.{IsWhole}
use Rattle.java_mean.specs.WellTyped.{IsWellTyped}
use Rattle.java_types.specs.Texts.{read_by}
use Rattle.qbs.specs.Inline.{IsProgramWithCallsOf}
use Rattle.qbs.specs.Sql.{IsAsked}

-- ---- What is right

-- the file is told, within a limit, and this is so of its bytes
pub record HasFile (told : List ℕ → Option (List ℕ)) (name : List ℕ) (limit : ℕ) (Is : List ℕ → Type 0) : Type 0 where
  pub bytes : List ℕ
  pub has : told name ≡ Some bytes
  pub within : length bytes ≤ limit
  pub is : Is bytes

-- the files of tables are told with these texts, all together within a limit
abbrev pub HaveTexts : (List ℕ → Option (List ℕ)) → List ℕ → List Table → ℕ → List (List ℕ) → Type 0
HaveTexts told folder tables left texts = AreHeld told (table_files folder tables) left texts

-- and those of entities
abbrev pub HaveEntities : (List ℕ → Option (List ℕ)) → List (List ℕ) → Type 0
HaveEntities told entities = (texts : List (List ℕ)) × AreHeld told entities most_entities texts

abbrev pub HasSchema : (List ℕ → Option (List ℕ)) → List ℕ → (Schema → Type 0) → Type 0
HasSchema told schema Is = HasFile told schema most_schema (λ bytes. (tables : Schema) × IsSchemaOf bytes tables × Is tables)

-- the source is a well-typed program under the schema
abbrev pub HasSource : (List ℕ → Option (List ℕ)) → List ℕ → Schema → (PlainProgram → Type 0) → Type 0
HasSource told source tables Is = HasFile told source most_source (λ bytes. (p : PlainProgram) × IsProgramOf tables bytes p × Is p)

-- the file is told, and has a map by the schema
abbrev pub HasMap : (List ℕ → Option (List ℕ)) → List ℕ → Schema → Type 0
HasMap told map tables = HasFile told map most_map (λ bytes. (m : ViewMap) × IsMapOf tables bytes m)

-- where words name a map, what is seen of the source by it is all that counts
abbrev pub HasSourceBy : (List ℕ → Option (List ℕ)) → Option (List ℕ) → List ℕ → Schema → Type 0
HasSourceBy told None source tables = HasSource told source tables (λ p. Unit {0})
HasSourceBy told (Some map) source tables = HasMap told map tables × HasFile told source most_source (λ bytes. Unit {0})

-- the tables are rows of the schema
pub record HasTables (told : List ℕ → Option (List ℕ)) (folder : List ℕ) (tables : Schema) : Type 0 where
  pub texts : List (List ℕ)
  pub db : Database
  pub have : HaveTexts told folder tables most_tables texts
  pub rows : HasRows tables texts db

-- where words name a store, its file has one of the schema
abbrev pub HasStoreFile : (List ℕ → Option (List ℕ)) → Option (List ℕ) → Schema → Type 0
HasStoreFile told None tables = Unit {0}
HasStoreFile told (Some name) tables = HasFile told name most_store (λ bytes. (items : List SmallDb) × HasStore tables bytes items)

-- where words name a source, its file is there
abbrev pub HasSourceFile : (List ℕ → Option (List ℕ)) → Option (List ℕ) → Type 0
HasSourceFile told None = Unit {0}
HasSourceFile told (Some name) = HasFile told name most_source (λ bytes. Unit {0})

-- the words call a method of the program
pub record HasCall (p : PlainProgram) (call : Call) : Type 0 where
  pub called : Called
  pub calls : Calls p call called

-- the bytes have a program with calls that breaks no rule of helpers, and the program in which no call is left is well typed
pub record HasWhole (tables : Schema) (bytes : List ℕ) : Type 0 where
  pub program : PlainProgram
  pub whole : PlainProgram
  pub is_program : IsProgramWithCallsOf bytes program
  pub is_whole : IsWhole program whole
  pub typed : IsWellTyped tables (read_by tables) whole

-- all that the command reads is right
abbrev pub IsRight : (List ℕ → Option (List ℕ)) → Command → Type 0
IsRight told (commands.Rewrite o schema source) = HasSchema told schema (λ tables. HasSourceBy told o.view source tables × HasStoreFile told o.store tables)
IsRight told (commands.Prove o schema source) = HasSchema told schema (λ tables. HasSourceBy told o.view source tables × HasStoreFile told o.store tables)
IsRight told (commands.Check o schema source bundle) =
    HasSchema told schema (HasSourceBy told o.view source) × HasFile told bundle most_bundle (λ bytes. (entries : List Entry) × HasBundle bytes entries)
IsRight told (commands.Run o schema source folder method words) =
    HasSchema told schema (λ tables. HasSource told source tables (λ p. HasCall p (record { method = method; words = words })) × HasTables told folder tables)
IsRight told (commands.Sql schema folder query) =
    HasSchema told schema (λ tables. ((q : PlainQuery) × IsAsked tables query q) × HasTables told folder tables)
IsRight told (commands.Inline schema source) = HasSchema told schema (λ tables. HasFile told source most_source (HasWhole tables))
IsRight told (commands.Narrow o schema source) = HasSchema told schema (λ tables. HasSource told source tables (λ p. Unit {0}))
IsRight told (commands.Unnest o schema source) = HasSchema told schema (λ tables. HasSource told source tables (λ p. Unit {0}))
IsRight told (commands.Gather o schema source) = HasSchema told schema (λ tables. HasSource told source tables (λ p. Unit {0}))
IsRight told (commands.View map schema source) = HasSchema told schema (HasSourceBy told (Some map) source)
IsRight told (commands.Map entities) = HaveEntities told entities
IsRight told (commands.MapSchema entities) = HaveEntities told entities
IsRight told (commands.CheckMap map schema source) = HasSchema told schema (λ tables. HasMap told map tables × HasSourceFile told source)
IsRight told (commands.Schema o dump) = HasFile told dump most_dump (λ bytes. Unit {0})
IsRight told _ = Unit {0}

-- ---- The statuses

-- it is done, or what is seen by a map is too long
abbrev pub IsDoneBy : Option (List ℕ) → Status → Type 0
IsDoneBy None status = status ≡ Status.Ok
IsDoneBy (Some map) status = (status ≡ Status.Ok) ⊎ (status ≡ Status.Limit)

-- what a command that is built ends with then: it is done, or an entry isn't accepted, or a run faults or has too few turns, or a total has not 64 bits, or what is seen is too long
abbrev pub IsEnd : Command → Status → Type 0
IsEnd (commands.Rewrite o schema source) status = IsDoneBy o.view status
IsEnd (commands.Prove o schema source) status = IsDoneBy o.view status
IsEnd (commands.Check o schema source bundle) status = IsDoneBy o.view status ⊎ (status ≡ Status.Refused)
IsEnd (commands.Run o schema source folder method words) status = (status ≡ Status.Ok) ⊎ (status ≡ Status.Faulted) ⊎ (status ≡ Status.Turns)
IsEnd (commands.Sql schema folder query) status = (status ≡ Status.Ok) ⊎ (status ≡ Status.Faulted)
IsEnd (commands.Make n) status = (status ≡ Status.Ok) ⊎ (status ≡ Status.Faulted) ⊎ (status ≡ Status.Turns)
IsEnd (commands.Schema o dump) status = status ≡ Status.Ok
IsEnd (commands.Inline schema source) status = status ≡ Status.Ok
IsEnd (commands.Narrow o schema source) status = status ≡ Status.Ok
IsEnd (commands.Unnest o schema source) status = status ≡ Status.Ok
IsEnd (commands.Gather o schema source) status = status ≡ Status.Ok
IsEnd (commands.View map schema source) status = IsDoneBy (Some map) status
IsEnd (commands.Map entities) status = status ≡ Status.Ok
IsEnd (commands.MapSchema entities) status = status ≡ Status.Ok
IsEnd (commands.CheckMap map schema source) status = status ≡ Status.Ok

abbrev pub IsEndWhere : Bool → Command → Status → Type 0
IsEndWhere true c status = IsEnd c status
IsEndWhere false c status = status ≡ Status.NotYet

abbrev pub IsListed : Command → Status → Type 0
IsListed c status = IsEndWhere (is_built c) c status

-- Where words are plain, no read fails, and all that is read is right, the command ends so, or memory ran out or a write failed.
abbrev pub IsComplete : Given → List (List ℕ) → Status → Type 0
IsComplete files words result =
    (c : Command) → HasWords words c → IsRight files.told c → ((name : List ℕ) → files.failed name → ⊥) → IsListed c result ⊎ (result ≡ Status.NoMemory) ⊎ (result ≡ Status.WriteFault)

-- What the top call promises: a plan that is due is written, and there is one.
use Rattle.std.specs.Prelude.{◌≡◌, ◌≤◌, ◌⊎◌, ℕ, List, [], ◌∷◌, ◌++◌, IsSome, IfSome, Ok, Bool, true, false, is_none}
use Rattle.std.specs.declared.option.Option.{Option}
use Rattle.std.specs.declared.option.Option.TheVariants.{Some, None}
use Rattle.std.specs.Io.KnownBytes.{Appends}
use Rattle.qbs_base.specs.declared.columns.Table.{Table}
use Rattle.qbs_base.specs.declared.status.Status.{Status}
use Rattle.words.specs.declared.command.Command.{Command}
use Rattle.words.specs.declared.command.Command.TheVariants as commands
use Rattle.words.specs.declared.command.Options.{Options}
use Rattle.words.specs.Plain.{HasWords}
use Rattle.deliveries.specs.declared.plan.Plan.{Plan}
use Rattle.deliveries.specs.Deliver.{Change, Delivers, IsCut}
use Rattle.deliveries.specs.Named.{IsNamed}
use Rattle.deliveries.specs.Plan.{Given, read_fault}
use Rattle.deliveries.specs.Reads.{Looks, OnlyReads}
use Rattle.plans.specs.Tables.{IsTableFile, table_files}
use Rattle.schema.specs.Schemas.{schema_of}
use Rattle.qbs.specs.Commands.{is_built, HasNoWords, program, IsDue}
use Rattle.verdicts.specs.Reports.{pruned_line}
use Rattle.qbs.specs.Maps.{source_names}
use Rattle.qbs.specs.Pruners.{May}
use Rattle.qbs.specs.Store.{store_names, IsStoreName}

-- a plan that is due was delivered
pub record IsDone (files : Given) (may : May) (words : List (List ℕ)) (out rep : Change) (result : Status) : Type 0 where
  pub plan : Plan
  pub due : IsDue files may words plan
  pub delivered : Delivers plan out rep result

-- a write of a plan that is due failed
pub record CutShort (files : Given) (may : May) (words : List (List ℕ)) (out rep : Change) : Type 0 where
  pub plan : Plan
  pub due : IsDue files may words plan
  pub cut : IsCut plan out rep

-- ---- One plan

-- it is the map that words may name
abbrev pub IsMapName : Option (List ℕ) → List ℕ → Type 0
IsMapName None name = ⊥
IsMapName (Some map) name = name ≡ map

-- the files that a command may read
abbrev pub MayRead : (List ℕ → Option (List ℕ)) → Command → List ℕ → Type 0
MayRead told (commands.Rewrite o schema source) name = IsMapName o.view name ⊎ (name ≡ schema) ⊎ (name ≡ source) ⊎ IsStoreName o.store name
MayRead told (commands.Prove o schema source) name = IsMapName o.view name ⊎ (name ≡ schema) ⊎ (name ≡ source) ⊎ IsStoreName o.store name
MayRead told (commands.Check o schema source bundle) name = IsMapName o.view name ⊎ (name ≡ schema) ⊎ (name ≡ source) ⊎ (name ≡ bundle)
MayRead told (commands.Run o schema source folder method words) name = (name ≡ schema) ⊎ (name ≡ source) ⊎ IsTableFile told schema folder name
MayRead told (commands.Sql schema folder query) name = (name ≡ schema) ⊎ IsTableFile told schema folder name
MayRead told (commands.Schema o dump) name = name ≡ dump
MayRead told (commands.Inline schema source) name = (name ≡ schema) ⊎ (name ≡ source)
MayRead told (commands.Narrow o schema source) name = (name ≡ schema) ⊎ (name ≡ source)
MayRead told (commands.Unnest o schema source) name = (name ≡ schema) ⊎ (name ≡ source)
MayRead told (commands.Gather o schema source) name = (name ≡ schema) ⊎ (name ≡ source)
MayRead told (commands.View map schema source) name = (name ≡ map) ⊎ (name ≡ schema) ⊎ (name ≡ source)
MayRead told (commands.Map entities) name = IsNamed entities name
MayRead told (commands.MapSchema entities) name = IsNamed entities name
MayRead told (commands.CheckMap map schema source) name = (name ≡ map) ⊎ (name ≡ schema) ⊎ IsNamed (source_names source) name
MayRead told _ name = ⊥

-- they are told, and none of the reads failed
pub record AreTold (files : Given) (words : List (List ℕ)) : Type 0 where
  pub told : (c : Command) (name : List ℕ) → HasWords words c → MayRead files.told c name → IsSome (files.told name)
  pub calm : (name : List ℕ) → files.failed name → ⊥

-- the same but for the number of dropped candidates
pub record AreAlike (p q : Plan) : Type 0 where
  pub lines : List ℕ
  pub first : ℕ
  pub second : ℕ
  pub status : p.status ≡ q.status
  pub out : p.out ≡ q.out
  pub first_lines : p.rep ≡ lines ++ pruned_line first
  pub second_lines : q.rep ≡ lines ++ pruned_line second

abbrev pub Alike : Plan → Plan → Type 0
Alike p q = (p ≡ q) ⊎ AreAlike p q

-- What is due doesn't hang on how it is found. Of what may be seen of a file one view is as good as another, and by a view one spelling too; and no
-- definition says what is drawn of entities or checks a map.
abbrev pub is_fixed : Command → Bool
is_fixed (commands.View map schema source) = false
is_fixed (commands.Rewrite o schema source) = is_none o.view
is_fixed (commands.Prove o schema source) = is_none o.view
is_fixed (commands.Check o schema source bundle) = is_none o.view
is_fixed (commands.Map entities) = false
is_fixed (commands.MapSchema entities) = false
is_fixed (commands.CheckMap map schema source) = false
is_fixed _ = true

abbrev pub AreFixed : List (List ℕ) → Type 0
AreFixed words = (c : Command) → HasWords words c → is_fixed c ≡ true

-- where all that is read is told, two plans that are due without want of memory are one but for the number of dropped candidates
abbrev pub HasOnePlan : Given → May → List (List ℕ) → Type 0
HasOnePlan files may words = AreTold files words → AreFixed words → (p q : Plan) → program files may words p → program files may words q → Alike p q

-- ---- A store

-- The words are those of `rewrite` or of `prove` with a store, and others those of the same command without it. By a view two calls may see a file in
-- two ways, with a store or without one: so none of them is named here.
pub data AreWithout : Command → Command → Type 0 where
  rewrite : (o : Options) (schema source name : List ℕ) → o.store ≡ Some name → o.view ≡ None → AreWithout (commands.Rewrite o schema source) (commands.Rewrite (record o { store = None }) schema source)
  prove : (o : Options) (schema source name : List ℕ) → o.store ≡ Some name → o.view ≡ None → AreWithout (commands.Prove o schema source) (commands.Prove (record o { store = None }) schema source)

-- Where all that is read is told and a plan with a store is due that ends well, the plan that is due without the store is one with it but for
-- the number of dropped candidates.
abbrev pub HasNeutralStore : Given → May → List (List ℕ) → Type 0
HasNeutralStore files may words =
    AreTold files words
    → (c d : Command) (others : List (List ℕ)) → HasWords words c → HasWords others d → AreWithout c d
    → (p q : Plan) → program files may words p → p.status ≡ Status.Ok → program files may others q → AreAlike p q

-- ---- The words

-- Words that aren't plain are refused as such, unless memory runs out or the write fails, and no file is read; and no others are.
pub record LeavesUnread {D : Type 0} (words : List (List ℕ)) (old new : D) (result : Status) : Type 0 where
  pub only : result ≡ Status.Words → HasNoWords words
  pub all : HasNoWords words → (result ≡ Status.Words) ⊎ (result ≡ Status.NoMemory) ⊎ (result ≡ Status.WriteFault)
  pub unread : HasNoWords words → new ≡ old

-- ---- What is read

-- the plan is the refusal of a read of one of these names, which failed
pub record ReadFailed (files : Given) (Names : List ℕ → Type 0) (plan : Plan) : Type 0 where
  pub name : List ℕ
  pub named : Names name
  pub failed : files.failed name
  pub due : plan ≡ read_fault name

-- status 3 comes only where a read of a file that the words name failed, and the line names it
abbrev pub HasReadFault : Given → List (List ℕ) → Change → Status → Type 0
HasReadFault files words rep result =
    result ≡ Status.ReadFault → (c : Command) × (plan : Plan) × HasWords words c × ReadFailed files (MayRead files.told c) plan × Appends rep.old rep.new plan.rep

-- The tables of the schema in this file, or none where it has no schema, have their files read in order, behind these.
pub record ReadsTables {D : Type 0} (l : Looks D) (front : List (List ℕ)) (folder schema : List ℕ) (old new : D) : Type 0 where
  pub tables : List Table
  pub of_schema : (tables ≡ []) ⊎ ((bytes : List ℕ) × IfSome (l.told old schema) (λ all. bytes ≡ all) × (schema_of bytes ≡ Ok tables))
  pub reads : OnlyReads l (front ++ table_files folder tables) old new

-- the same of the bytes of a schema
pub record ReadsTablesOf {D : Type 0} (l : Looks D) (folder bytes : List ℕ) (old new : D) : Type 0 where
  pub tables : List Table
  pub of_schema : (tables ≡ []) ⊎ (schema_of bytes ≡ Ok tables)
  pub reads : OnlyReads l (table_files folder tables) old new

-- the names of files, before which the map is read that words may name
abbrev pub with_map : Option (List ℕ) → List (List ℕ) → List (List ℕ)
with_map None names = names
with_map (Some map) names = map ∷ names

-- the files that a command that is built reads, in this order, each once
abbrev pub ReadsBuilt : {D : Type 0} → Looks D → Command → D → D → Type 0
ReadsBuilt l (commands.Rewrite o schema source) old new = OnlyReads l (with_map o.view (schema ∷ source ∷ store_names o.store)) old new
ReadsBuilt l (commands.Prove o schema source) old new = OnlyReads l (with_map o.view (schema ∷ source ∷ store_names o.store)) old new
ReadsBuilt l (commands.Check o schema source bundle) old new = OnlyReads l (with_map o.view (schema ∷ source ∷ bundle ∷ [])) old new
ReadsBuilt l (commands.Run o schema source folder method words) old new = ReadsTables l (schema ∷ source ∷ []) folder schema old new
ReadsBuilt l (commands.Sql schema folder query) old new = ReadsTables l (schema ∷ []) folder schema old new
ReadsBuilt l (commands.Schema o dump) old new = OnlyReads l (dump ∷ []) old new
ReadsBuilt l (commands.Inline schema source) old new = OnlyReads l (schema ∷ source ∷ []) old new
ReadsBuilt l (commands.Narrow o schema source) old new = OnlyReads l (schema ∷ source ∷ []) old new
ReadsBuilt l (commands.Unnest o schema source) old new = OnlyReads l (schema ∷ source ∷ []) old new
ReadsBuilt l (commands.Gather o schema source) old new = OnlyReads l (schema ∷ source ∷ []) old new
ReadsBuilt l (commands.View map schema source) old new = OnlyReads l (map ∷ schema ∷ source ∷ []) old new
ReadsBuilt l (commands.Map entities) old new = OnlyReads l entities old new
ReadsBuilt l (commands.MapSchema entities) old new = OnlyReads l entities old new
ReadsBuilt l (commands.CheckMap map schema source) old new = OnlyReads l (map ∷ schema ∷ source_names source) old new
ReadsBuilt l _ old new = OnlyReads l [] old new

-- none are read for what isn't built
abbrev pub ReadsWhere : {D : Type 0} → Bool → Looks D → Command → D → D → Type 0
ReadsWhere true l c old new = ReadsBuilt l c old new
ReadsWhere false l c old new = OnlyReads l [] old new

abbrev pub ReadsInOrder : {D : Type 0} → Looks D → Command → D → D → Type 0
ReadsInOrder l c old new = ReadsWhere (is_built c) l c old new

abbrev pub ReadsAsNamed : {D : Type 0} → Looks D → List (List ℕ) → D → D → Type 0
ReadsAsNamed l words old new = (c : Command) → HasWords words c → ReadsInOrder l c old new

-- ---- What stays

-- what is told of files stays, and no count of faults falls
pub record IsSame {D : Type 0} (told : D → List ℕ → Option (List ℕ)) (faults : D → ℕ) (old new : D) : Type 0 where
  pub held : told new ≡ told old
  pub later : faults old ≤ faults new

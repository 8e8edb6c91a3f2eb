-- The command `gather`: the small databases that refute candidates of a program's loops are written as a store.
use Rattle.std.specs.Prelude.{◌≡◌, ℕ, List, [], ◌∷◌, codes, take}
use Rattle.qbs_base.specs.declared.status.Status.{Status}
use Rattle.qbs_base.specs.Values.{Schema}
use Rattle.java_ast.specs.Tree.{PlainProgram}
use Rattle.small_dbs.specs.declared.small.SmallDb.{SmallDb}
use Rattle.templates.specs.Numbered.{candidates_of}
use Rattle.proof_store.specs.Gathering.{Gathers, GathersBefore}
use Rattle.proof_store.specs.Grammar.{HasStore}
use Rattle.proof_store.specs.Texts.{store_text}
use Rattle.rewrite_core.specs.Searches.{PlainSearch}
use Rattle.rewrite_core.specs.Trying.{Answer, Outside, Searched, Tried, all_tried}
use Rattle.words.specs.declared.command.Command.TheVariants as commands
use Rattle.words.specs.declared.command.Options.{Options}
use Rattle.words.specs.Plain.{HasWords}
use Rattle.deliveries.specs.declared.plan.Plan.{Plan}
use Rattle.deliveries.specs.Deliver.{Change}
use Rattle.deliveries.specs.Limits.{most_schema, most_source}
use Rattle.deliveries.specs.Plan.{Given}
use Rattle.deliveries.specs.Steps.{Ends, reads}
use Rattle.plans.specs.Opening.{IsSchemaOf, IsProgramOf, has_schema, has_program}
use Rattle.qbs.specs.Reports.{report_text}
use Rattle.qbs.specs.Rewrite.{size_of, budget_of, rewriting_plan}
use Rattle.qbs.specs.Written.{HasWritten}

-- ---- What is gathered

-- the candidates before an answer lead from one bank to another
abbrev pub GathersAt : Schema → ℕ → Answer → List SmallDb → List SmallDb → Type 0
GathersAt tables size (Searched f v) items end = GathersBefore tables size f v items end
GathersAt tables size (Outside b) items end = items ≡ end

-- those of the loops that were tried, in their order
abbrev pub AllGather : Schema → ℕ → List Tried → List SmallDb → List SmallDb → Type 0
AllGather tables size [] items end = items ≡ end
AllGather tables size (t ∷ ts) items end = (mid : List SmallDb) × GathersAt tables size t.answer items mid × AllGather tables size ts mid end

-- what was searched leads from one bank to another
abbrev pub SearchesGather : Schema → ℕ → List PlainSearch → List SmallDb → List SmallDb → Type 0
SearchesGather tables size [] items end = items ≡ end
SearchesGather tables size (s ∷ ss) items end =
    (mid : List SmallDb) × Gathers tables s.fragment (take s.before (candidates_of s.fragment size)) items mid × SearchesGather tables size ss mid end

-- the loops of a program leave these items in an empty bank
abbrev pub IsGathered : Schema → ℕ → ℕ → PlainProgram → List SmallDb → Type 0
IsGathered tables size budget p items = AllGather tables size (all_tried tables size budget p) [] items

-- ---- What is written

-- The text of the bank is written, which is a store of the schema, and what is said of each loop. No candidate is dropped.
pub record GathersStore (tables : Schema) (size budget : ℕ) (p : PlainProgram) (plan : Plan) : Type 0 where
  pub items : List SmallDb
  pub gathered : IsGathered tables size budget p items
  pub store : HasStore tables (store_text items) items
  pub written : plan ≡ rewriting_plan tables size budget p (store_text items) 0

-- ---- The command

-- over the bytes of a schema and a source
abbrev pub gather_of : Options → List ℕ → List ℕ → Ends
gather_of o schema source = has_schema schema (λ tables. has_program tables source (λ p. GathersStore tables (size_of o) (budget_of o) p))

abbrev pub gather : Given → Options → List ℕ → List ℕ → Ends
gather files o schema source =
    reads files schema most_schema (codes "schema") (λ s. reads files source most_source (codes "source") (λ t. gather_of o s t))

-- ---- What it is worth

-- What `gather` read, as `schema` and `source`, and what it wrote, as `out` and `rep`.
pub record IsGathering (size budget : ℕ) (schema source out rep : List ℕ) : Type 0 where
  -- the schema's bytes are a schema, and the source's bytes have a well-typed program under it
  pub tables : Schema
  pub program : PlainProgram
  pub is_schema : IsSchemaOf schema tables
  pub is_program : IsProgramOf tables source program
  -- the loops of the program that were tried, in their order, and what their candidates leave
  pub tries : List Tried
  pub are_tries : tries ≡ all_tried tables size budget program
  pub items : List SmallDb
  pub gathered : AllGather tables size tries [] items
  -- text: the bytes written are the store of these items
  pub store : HasStore tables out items
  -- report: a line for each loop that was tried, and that no candidate was dropped
  pub report : rep ≡ report_text tries 0

-- both files were read, and both sinks have grown by what is written
abbrev pub IsGatheredText : Given → Options → List ℕ → List ℕ → Change → Change → Type 0
IsGatheredText files o schema source out rep = HasWritten files schema source (IsGathering (size_of o) (budget_of o)) out rep

abbrev pub HasGathering : Given → List (List ℕ) → Change → Change → Status → Type 0
HasGathering files words out rep result =
    (o : Options) (schema source : List ℕ) → HasWords words (commands.Gather o schema source) → result ≡ Status.Ok → IsGatheredText files o schema source out rep

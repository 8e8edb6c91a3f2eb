-- The command `prove` by a view: what is seen of a file is proved as any program is, and the report has places of the file.
use Rattle.std.specs.Prelude.{◌≡◌, ℕ, List, [], ◌++◌, map, filter}
use Rattle.std.specs.Io.KnownBytes.{Appends}
use Rattle.std.specs.List.{flat_map}
use Rattle.std.specs.declared.option.Option.{Option}
use Rattle.std.specs.declared.option.Option.TheVariants.{Some}
use Rattle.qbs_base.specs.declared.status.Status.{Status}
use Rattle.qbs_base.specs.Values.{Schema}
use Rattle.java_ast.specs.Tree.{PlainProgram}
use Rattle.deriv_check.specs.Grammar.{HasBundle}
use Rattle.deriv_check.specs.Texts.{bundle_text}
use Rattle.small_dbs.specs.declared.small.SmallDb.{SmallDb}
use Rattle.verdicts.specs.declared.verdict.LoopVerdict.{LoopVerdict}
use Rattle.verdicts.specs.Reports.{pruned_line}
use Rattle.view_map.specs.declared.model.ViewMap.{ViewMap}
use Rattle.view_slices.specs.Views.{View}
use Rattle.view_reports.specs.declared.lines.ViewLine.{ViewLine}
use Rattle.view_reports.specs.declared.lines.ViewLine.TheVariants as lines
use Rattle.view_reports.specs.Lines.{view_line}
use Rattle.rewrite_core.specs.Pruned.{ArePruned}
use Rattle.rewrite_core.specs.Rewriting.{StandAsTried, verdicts_of}
use Rattle.rewrite_core.specs.Trying.{all_tried, rewritten}
use Rattle.words.specs.declared.command.Command.TheVariants as commands
use Rattle.words.specs.declared.command.Options.{Options}
use Rattle.words.specs.Plain.{HasWords}
use Rattle.deliveries.specs.declared.plan.Plan.{Plan}
use Rattle.deliveries.specs.Deliver.{Change}
use Rattle.deliveries.specs.Limits.{most_map, most_schema, most_source}
use Rattle.deliveries.specs.Plan.{Given}
use Rattle.deliveries.specs.Steps.{Ends, IsRead}
use Rattle.plans.specs.Opening.{IsSchemaOf, IsMapOf}
use Rattle.qbs.specs.Check.{AreAccepted}
use Rattle.qbs.specs.OpenedByView.{reads_by_view, sees_all}
use Rattle.qbs.specs.Prove.{entries_for, HasEvidence}
use Rattle.qbs.specs.Pruners.{May, with_bank}
use Rattle.qbs.specs.Rewrite.{size_of, budget_of}
use Rattle.qbs.specs.RewriteByView.{cells_of, verdict_in, is_told, is_tried}
use Rattle.qbs.specs.Store.{IsStoreRead, IsBankOf}
use Rattle.qbs.specs.View.{Seen, Methods, Nothing, IsSeen}

-- ---- The report

-- what is said of a loop that was tried, at its place in the file
abbrev pub placed_line : List ℕ → ViewMap → Schema → View → LoopVerdict → ViewLine
placed_line source m tables v said = lines.Tried (verdict_in source (cells_of m tables v) said)

-- a line for each loop of the file that was tried, among those of loops that aren't seen, and how many candidates were dropped
pub record IsPlacedReport (m : ViewMap) (tables : Schema) (source : List ℕ) (v : View) (verdicts : List LoopVerdict) (pruned : ℕ) (rep : List ℕ) : Type 0 where
  pub said : List ViewLine
  pub tried : filter is_tried said ≡ map (placed_line source m tables v) (filter (is_told m tables v) verdicts)
  pub report : rep ≡ flat_map view_line said ++ pruned_line pruned

-- lines of loops that aren't seen, and none of others
pub record IsUnseenReport (rep : List ℕ) : Type 0 where
  pub said : List ViewLine
  pub unseen : filter is_tried said ≡ []
  pub report : rep ≡ flat_map view_line said ++ pruned_line 0

-- ---- What is written

-- The text of the entries is written that the loops have that give way in what is seen. Places of a bundle are those of that text.
pub record ProvesView (may : May) (m : ViewMap) (tables : Schema) (size budget : ℕ) (source : List ℕ) (v : View) (p : PlainProgram) (plan : Plan) : Type 0 where
  pub pruned : ℕ
  pub evidence : HasEvidence may tables size budget p pruned
  pub rep : List ℕ
  pub report : IsPlacedReport m tables source v (verdicts_of (all_tried tables size budget p)) pruned rep
  pub written : plan ≡ record { status = Status.Ok; out = bundle_text (entries_for tables size budget p); rep = rep }

-- where nothing is seen, the text of no entries is written
pub record ProvesNothing (plan : Plan) : Type 0 where
  pub rep : List ℕ
  pub report : IsUnseenReport rep
  pub written : plan ≡ record { status = Status.Ok; out = bundle_text []; rep = rep }

abbrev pub ProvesSeen : May → ViewMap → Schema → ℕ → ℕ → List ℕ → Seen → Ends
ProvesSeen may m tables size budget source (Methods v p) plan = ProvesView may m tables size budget source v p plan
ProvesSeen may m tables size budget source Nothing plan = ProvesNothing plan

-- ---- The command

-- over the bytes of a map, a schema and a source, and of a store, where there is one
abbrev pub prove_by_view_of : May → Options → List ℕ → List ℕ → List ℕ → Option (List ℕ) → Ends
prove_by_view_of may o w s t b = sees_all w s t b (λ tables m seen bank. ProvesSeen (with_bank may bank) m tables (size_of o) (budget_of o) t seen)

abbrev pub prove_by_view : Given → May → Options → List ℕ → List ℕ → List ℕ → Ends
prove_by_view files may o words schema source = reads_by_view files words schema source o.store (λ w s t b. prove_by_view_of may o w s t b)

-- ---- What it is worth

-- what `prove` by a view wrote of a view and the program that it is seen as
pub record IsViewProved (may : May) (m : ViewMap) (tables : Schema) (size budget : ℕ) (source : List ℕ) (v : View) (p : PlainProgram) (out rep : List ℕ) : Type 0 where
  -- What is written is the bundle of all loops that gave way. Its entries are accepted, and make the program after all tries, which is well
  -- typed and does what the program seen does.
  pub bundle : HasBundle out (entries_for tables size budget p)
  pub accepted : AreAccepted tables (entries_for tables size budget p) p (rewritten tables size budget p)
  -- report: a line for each loop of the file that was tried, at its place there, among those of loops that aren't seen, and how many candidates
  -- were dropped
  pub pruned : ℕ
  pub counted : ArePruned may.drops may.keeps size (all_tried tables size budget p) pruned
  pub report : IsPlacedReport m tables source v (verdicts_of (all_tried tables size budget p)) pruned rep
  -- each loop that no entry is of stands as it was tried
  pub standing : StandAsTried (all_tried tables size budget p) (rewritten tables size budget p)

-- where nothing is seen, the bundle has no entries
pub record IsNothingProved (out rep : List ℕ) : Type 0 where
  pub bundle : HasBundle out []
  pub report : IsUnseenReport rep

abbrev pub IsSeenProved : May → ViewMap → Schema → ℕ → ℕ → List ℕ → Seen → List ℕ → List ℕ → Type 0
IsSeenProved may m tables size budget source (Methods v p) out rep = IsViewProved may m tables size budget source v p out rep
IsSeenProved may m tables size budget source Nothing out rep = IsNothingProved out rep

-- What `prove` by a view read, as `words` of the map, `schema` and `source`, and as `store` where the words name one, and what it wrote, as `out`
-- and `rep`.
pub record IsProvedByView (may : May) (size budget : ℕ) (words schema source : List ℕ) (store : Option (List ℕ)) (out rep : List ℕ) : Type 0 where
  -- the schema's bytes are a schema, and the map's bytes a map by it
  pub tables : Schema
  pub is_schema : IsSchemaOf schema tables
  pub map : ViewMap
  pub is_map : IsMapOf tables words map
  -- what is seen of the source by the map, a well-typed program, or nothing
  pub seen : Seen
  pub is_seen : IsSeen map tables source seen
  -- that program is proved
  pub bank : Option (List SmallDb)
  pub is_bank : IsBankOf tables store bank
  pub proved : IsSeenProved (with_bank may bank) map tables size budget source seen out rep

-- all files were read, and both sinks have grown by what is written
pub record IsProofByView (files : Given) (may : May) (o : Options) (words schema source : List ℕ) (out rep : Change) : Type 0 where
  pub words_read : List ℕ
  pub schema_read : List ℕ
  pub source_read : List ℕ
  pub store_read : Option (List ℕ)
  pub text : List ℕ
  pub lines : List ℕ
  pub read_words : IsRead files words most_map words_read
  pub read_schema : IsRead files schema most_schema schema_read
  pub read_source : IsRead files source most_source source_read
  pub read_store : IsStoreRead files o.store store_read
  pub is : IsProvedByView may (size_of o) (budget_of o) words_read schema_read source_read store_read text lines
  pub wrote_text : Appends out.old out.new text
  pub wrote_lines : Appends rep.old rep.new lines

abbrev pub HasProofByView : Given → May → List (List ℕ) → Change → Change → Status → Type 0
HasProofByView files may words out rep result =
    (o : Options) (map schema source : List ℕ) → HasWords words (commands.Prove o schema source) → o.view ≡ Some map → result ≡ Status.Ok
    → IsProofByView files may o map schema source out rep

-- The command `rewrite` by a view: what is seen of a file is rewritten as any program is, and what gave way is written in the file's own words
-- where these are seen again as the method that rewriting left.
use Rattle.std.specs.Prelude.{◌≡◌, ℕ, ◌-◌, List, [], ◌∷◌, ◌++◌, length, codes, map, filter, Bool, true, false, Option, Some, None, slice_get, nat_lt, ◌==◌, not, if◌then◌else◌}
use Rattle.std.specs.Io.KnownBytes.{Appends}
use Rattle.std.specs.List.{flat_map}
use Rattle.qbs_base.specs.declared.span.Span.{Span}
use Rattle.qbs_base.specs.declared.status.Status.{Status}
use Rattle.qbs_base.specs.Values.{Schema}
use Rattle.java_ast.specs.Tree.{PlainProgram}
use Rattle.small_dbs.specs.declared.small.SmallDb.{SmallDb}
use Rattle.text_places.specs.Places.{span_in}
use Rattle.verdicts.specs.declared.verdict.LoopVerdict.{LoopVerdict}
use Rattle.verdicts.specs.declared.verdict.Said.{Said}
use Rattle.verdicts.specs.declared.verdict.Said.TheVariants as says
use Rattle.verdicts.specs.Reports.{pruned_line}
use Rattle.view_items.specs.declared.cell.Cell.{Cell}
use Rattle.view_map.specs.declared.model.ViewMap.{ViewMap}
use Rattle.view_slices.specs.Slices.{File}
use Rattle.view_slices.specs.Views.{View, class_cells}
use Rattle.view_text.specs.Layout.{cell_at}
use Rattle.view_reports.specs.declared.lines.ViewLine.{ViewLine}
use Rattle.view_reports.specs.declared.lines.ViewLine.TheVariants as lines
use Rattle.view_reports.specs.Lines.{view_line}
use Rattle.java_stretches.specs.Patches.{PlainPatch}
use Rattle.view_spell.specs.declared.spelled.SliceSpelled.{SliceSpelled}
use Rattle.view_spell.specs.declared.spelled.SliceSpelled.TheVariants as fates
use Rattle.view_spell.specs.Placed.{patches_of, are_apart, are_answers, slices_with}
use Rattle.view_spell.specs.Shared.{SeenAs}
use Rattle.rewrite_core.specs.Patches.{patches_left}
use Rattle.rewrite_core.specs.Pruned.{ArePruned}
use Rattle.rewrite_core.specs.Rewriting.{verdicts_of}
use Rattle.rewrite_core.specs.Trying.{all_tried, rewritten}
use Rattle.words.specs.declared.command.Command.TheVariants as commands
use Rattle.words.specs.declared.command.Options.{Options}
use Rattle.words.specs.Plain.{HasWords}
use Rattle.deliveries.specs.declared.plan.Plan.{Plan}
use Rattle.deliveries.specs.Deliver.{Change}
use Rattle.deliveries.specs.Limits.{most_map, most_schema, most_source}
use Rattle.deliveries.specs.Plan.{Given}
use Rattle.deliveries.specs.Steps.{Ends, IsRead, reads}
use Rattle.plans.specs.Opening.{IsSchemaOf, IsMapOf, has_schema, has_map}
use Rattle.qbs.specs.Pruners.{May, with_bank}
use Rattle.qbs.specs.Rewrite.{IsRewriting, size_of, budget_of}
use Rattle.qbs.specs.Store.{IsStoreRead, IsBankOf, has_store, reads_store}
use Rattle.qbs.specs.ItemBytes.{begins_at}
use Rattle.qbs.specs.SeenAgain.{Stood, slices_in, last_byte, IsSettled}
use Rattle.qbs.specs.View.{Seen, Methods, Nothing, IsSeen, sees, text_of}

-- ---- The report

abbrev pub cells_of : ViewMap → Schema → View → List Cell
cells_of m tables v = class_cells m tables v.file v.methods

-- the byte of the file from which comes what stands at a byte of the text that it is seen as
abbrev pub cell_start : Option Cell → ℕ
cell_start None = 0
cell_start (Some cell) = cell.from

abbrev pub origin : List Cell → Option ℕ → ℕ
origin cells None = 0
origin cells (Some n) = cell_start (slice_get cells n)

abbrev pub place_in : List ℕ → List Cell → Span → Span
place_in source cells at = span_in source (origin cells (cell_at cells at.start))

-- what is said of a loop that was tried, with places of the file
abbrev pub said_in : List ℕ → List Cell → Said → Said
said_in source cells (says.Outside rule at) = says.Outside rule (place_in source cells at)
said_in source cells said = said

abbrev pub verdict_in : List ℕ → List Cell → LoopVerdict → LoopVerdict
verdict_in source cells v = record { at = place_in source cells v.at; said = said_in source cells v.said }

-- a loop that gave way says why it stands, where its slice is left
abbrev pub line_by : SliceSpelled → LoopVerdict → Said → ViewLine
line_by fates.Shared v (says.Found k) = lines.Shared v.at
line_by fates.Unlike v (says.Found k) = lines.Unlike v.at
line_by fate v said = lines.Tried v

abbrev pub line_in : Option SliceSpelled → LoopVerdict → ViewLine
line_in None v = lines.Tried v
line_in (Some fate) v = line_by fate v v.said

-- what becomes of the slice in which a byte stands: the first one that ends behind it
abbrev pub fate_at : File → List Stood → List SliceSpelled → ℕ → Option SliceSpelled
fate_at file (st ∷ sts) (fate ∷ further) byte = if nat_lt byte (last_byte file st.slice) then Some fate else fate_at file sts further byte
fate_at file _ _ byte = None

-- the byte of the file from which comes the loop
abbrev pub loop_byte : List Cell → LoopVerdict → ℕ
loop_byte cells v = origin cells (cell_at cells v.at.start)

-- The loops of what is printed come from the last item of the slice in which they stand, at which no loop of the file begins: they have no line.
abbrev pub is_print_at : File → List Stood → ℕ → Bool
is_print_at file [] byte = false
is_print_at file (st ∷ sts) byte =
    if nat_lt byte (last_byte file st.slice) then byte == begins_at (slice_get file.items (st.slice.to - 1)) else is_print_at file sts byte

abbrev pub is_told : ViewMap → Schema → View → LoopVerdict → Bool
is_told m tables v said = not (is_print_at v.file (slices_in v.methods) (loop_byte (cells_of m tables v) said))

abbrev pub tried_line : List ℕ → ViewMap → Schema → View → List SliceSpelled → LoopVerdict → ViewLine
tried_line source m tables v spelled said =
    line_in (fate_at v.file (slices_in v.methods) spelled (loop_byte (cells_of m tables v) said)) (verdict_in source (cells_of m tables v) said)

abbrev pub is_tried : ViewLine → Bool
is_tried (lines.Unseen at rule because) = false
is_tried _ = true

-- ---- What is written

abbrev pub seen_in : ViewMap → Schema → View → SeenAs
seen_in m tables v = record { map = m; schema = tables; items = v.file.items; cells = cells_of m tables v }

abbrev pub puts_in : ViewMap → Schema → ℕ → ℕ → View → PlainProgram → List PlainPatch
puts_in m tables size budget v p = patches_left (text_of m tables v) [] (all_tried tables size budget p)

-- A view of a source is rewritten, and what is left of it is written into the source where it is seen again.
pub record IsWrittenBy (may : May) (m : ViewMap) (tables : Schema) (size budget : ℕ) (source : List ℕ) (v : View) (p : PlainProgram) (out rep : List ℕ) : Type 0 where
  -- what is seen is rewritten as any program is: what is left is well typed and does what this does, and its loops were tried
  pub rewriting : IsRewriting tables size budget p
  -- what becomes of each slice: nothing was put into it, or it lists rows that could be told from other objects, or it isn't written, or it has
  -- patches in place of the bytes from which those come that were replaced in what is seen
  pub spelled : List SliceSpelled
  pub answers : are_answers (seen_in m tables v) 0 (slices_with v.methods) (puts_in m tables size budget v p) spelled ≡ true
  pub apart : are_apart 0 (length source) (patches_of spelled) ≡ true
  -- the source is written with these patches, in order and apart, and each slice that has some is seen again as the method that rewriting left
  pub settled : IsSettled m tables source v.file (rewritten tables size budget p).methods (slices_in v.methods) spelled out
  -- report: a line for each loop of the source that was tried, at its place there, among those of loops that aren't seen, and how many candidates
  -- were dropped
  pub pruned : ℕ
  pub counted : ArePruned may.drops may.keeps size (all_tried tables size budget p) pruned
  pub said : List ViewLine
  pub tried : filter is_tried said ≡ map (tried_line source m tables v spelled) (filter (is_told m tables v) (verdicts_of (all_tried tables size budget p)))
  pub report : rep ≡ flat_map view_line said ++ pruned_line pruned

-- nothing of a source is seen, which stays
pub record IsLeft (source out rep : List ℕ) : Type 0 where
  pub output : out ≡ source
  pub said : List ViewLine
  pub unseen : filter is_tried said ≡ []
  pub report : rep ≡ flat_map view_line said ++ pruned_line 0

abbrev pub IsWrittenBack : May → ViewMap → Schema → ℕ → ℕ → List ℕ → Seen → List ℕ → List ℕ → Type 0
IsWrittenBack may m tables size budget source (Methods v p) out rep = IsWrittenBy may m tables size budget source v p out rep
IsWrittenBack may m tables size budget source Nothing out rep = IsLeft source out rep

pub record WritesBack (may : May) (m : ViewMap) (tables : Schema) (size budget : ℕ) (source : List ℕ) (seen : Seen) (plan : Plan) : Type 0 where
  pub out : List ℕ
  pub rep : List ℕ
  pub is : IsWrittenBack may m tables size budget source seen out rep
  pub written : plan ≡ record { status = Status.Ok; out = out; rep = rep }

-- ---- The command

-- over the bytes of a map, a schema and a source, and of a store, where there is one
abbrev pub rewrite_by_view_of : May → Options → List ℕ → List ℕ → List ℕ → Option (List ℕ) → Ends
rewrite_by_view_of may o words schema source store =
    has_schema schema (λ tables. has_map tables words (λ m. sees m tables source (λ seen. has_store tables store (λ bank.
    WritesBack (with_bank may bank) m tables (size_of o) (budget_of o) source seen))))

abbrev pub rewrite_by_view : Given → May → Options → List ℕ → List ℕ → List ℕ → Ends
rewrite_by_view files may o words schema source =
    reads files words most_map (codes "map") (λ w. reads files schema most_schema (codes "schema") (λ s. reads files source most_source (codes "source")
    (λ t. reads_store files o.store (λ b. rewrite_by_view_of may o w s t b))))

-- ---- What it is worth

-- What `rewrite` by a view read, as `words` of the map, `schema` and `source`, and as `store` where the words name one, and what it wrote, as `out`
-- and `rep`. It promises that what is written is safe, and not that anything is rewritten: a source that is written back as it is meets it too, as
-- one of which nothing is seen, or of which no slice can be written.
pub record IsRewrittenByView (may : May) (size budget : ℕ) (words schema source : List ℕ) (store : Option (List ℕ)) (out rep : List ℕ) : Type 0 where
  -- the schema's bytes are a schema, and the map's bytes a map by it
  pub tables : Schema
  pub is_schema : IsSchemaOf schema tables
  pub map : ViewMap
  pub is_map : IsMapOf tables words map
  -- what is seen of the source by the map, which has a well-typed program, or nothing
  pub seen : Seen
  pub is_seen : IsSeen map tables source seen
  -- that program is rewritten, and the source is written with what is left of it, slice by slice
  pub bank : Option (List SmallDb)
  pub is_bank : IsBankOf tables store bank
  pub written : IsWrittenBack (with_bank may bank) map tables size budget source seen out rep

-- all files were read, and both sinks have grown by what is written
pub record IsHeadlineByView (files : Given) (may : May) (o : Options) (words schema source : List ℕ) (out rep : Change) : Type 0 where
  pub words_read : List ℕ
  pub schema_read : List ℕ
  pub source_read : List ℕ
  pub store_read : Option (List ℕ)
  pub text : List ℕ
  pub lines : List ℕ
  pub read_words : IsRead files words most_map words_read
  pub read_schema : IsRead files schema most_schema schema_read
  pub read_source : IsRead files source most_source source_read
  pub read_store : IsStoreRead files o.store store_read
  pub is : IsRewrittenByView may (size_of o) (budget_of o) words_read schema_read source_read store_read text lines
  pub wrote_text : Appends out.old out.new text
  pub wrote_lines : Appends rep.old rep.new lines

abbrev pub HasHeadlineByView : Given → May → List (List ℕ) → Change → Change → Status → Type 0
HasHeadlineByView files may words out rep result =
    (o : Options) (map schema source : List ℕ) → HasWords words (commands.Rewrite o schema source) → o.view ≡ Some map → result ≡ Status.Ok
    → IsHeadlineByView files may o map schema source out rep

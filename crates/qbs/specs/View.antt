-- The command `view`: what is seen of a Java file by a map, as a program that has a method for each slice.
use Rattle.std.specs.Prelude.{◌≡◌, ℕ, ◌+◌, ◌<◌, List, [], ◌∷◌, length, codes, map, filter, Bool, true, false, slice_get}
use Rattle.std.specs.Io.KnownBytes.{Appends}
use Rattle.std.specs.List.{flat_map}
use Rattle.qbs_base.specs.declared.status.Status.{Status}
use Rattle.qbs_base.specs.Values.{Schema}
use Rattle.java_ast.specs.Tree.{PlainProgram}
use Rattle.text_places.specs.Places.{span_in}
use Rattle.view_map.specs.declared.model.ViewMap.{ViewMap}
use Rattle.view_slices.specs.Slices.{File, PlainSlice}
use Rattle.view_slices.specs.Views.{View, PlainSliced, IsView, class_cells}
use Rattle.view_text.specs.Layout.{laid_out}
use Rattle.view_reports.specs.declared.lines.ViewLine.{ViewLine}
use Rattle.view_reports.specs.declared.lines.ViewLine.TheVariants as says
use Rattle.view_reports.specs.Lines.{view_line}
use Rattle.words.specs.declared.command.Command.TheVariants as commands
use Rattle.words.specs.Plain.{HasWords}
use Rattle.deliveries.specs.declared.plan.Plan.{Plan}
use Rattle.deliveries.specs.Deliver.{Change}
use Rattle.deliveries.specs.Limits.{most_map, most_schema, most_source}
use Rattle.deliveries.specs.Plan.{Given, too_long}
use Rattle.deliveries.specs.Steps.{Ends, IsRead, reads, step}
use Rattle.plans.specs.Opening.{IsSchemaOf, IsMapOf, IsProgramOf, has_schema, has_map}
pub use Rattle.qbs.specs.ItemBytes.{begins_at}

-- ---- What is seen

abbrev pub slice_start : File → PlainSlice → ℕ
slice_start file s = begins_at (slice_get file.items s.from)

abbrev pub method_starts : File → PlainSliced → List ℕ
method_starts file m = map (slice_start file) m.slices

-- where the slices begin, in their order
abbrev pub starts_of : View → List ℕ
starts_of v = flat_map (method_starts v.file) v.methods

-- the program that a view is seen as
abbrev pub text_of : ViewMap → Schema → View → List ℕ
text_of m tables v = laid_out (class_cells m tables v.file v.methods)

-- what is seen of a source: a view and the program of its text, or nothing
pub data Seen : Type 0 where
  Methods : View → PlainProgram → Seen
  Nothing : Seen

-- the view is one of the source, and its text has this well-typed program
abbrev pub IsSeen : ViewMap → Schema → List ℕ → Seen → Type 0
IsSeen m tables source (Methods v p) = IsView m tables source v × IsProgramOf tables (text_of m tables v) p
IsSeen m tables source Nothing = Unit {0}

-- a view is longer than a source may be
pub record IsTooLong (m : ViewMap) (tables : Schema) (source : List ℕ) (plan : Plan) : Type 0 where
  pub view : View
  pub is_view : IsView m tables source view
  pub long : most_source < length (text_of m tables view)
  pub due : plan ≡ too_long (codes "view")

abbrev pub sees : ViewMap → Schema → List ℕ → (Seen → Ends) → Ends
sees m tables source next = step (IsSeen m tables source) (IsTooLong m tables source) next

-- a class without methods stands for a file of which nothing is seen
abbrev pub nothing_seen : List ℕ
nothing_seen = codes "class View {\n}\n"

abbrev pub seen_text : ViewMap → Schema → Seen → List ℕ
seen_text m tables (Methods v p) = text_of m tables v
seen_text m tables Nothing = nothing_seen

abbrev pub seen_starts : Seen → List ℕ
seen_starts (Methods v p) = starts_of v
seen_starts Nothing = []

-- ---- The report

abbrev pub is_slice_line : ViewLine → Bool
is_slice_line (says.Slice k at) = true
is_slice_line _ = false

-- a line for each slice, the first of which has a number
abbrev pub slice_lines : List ℕ → ℕ → List ℕ → List ViewLine
slice_lines source k [] = []
slice_lines source k (at ∷ ats) = says.Slice k (span_in source at) ∷ slice_lines source (k + 1) ats

-- ---- What is written

abbrev pub viewed_plan : List ℕ → List ViewLine → Plan
viewed_plan out lines = record { status = Status.Ok; out = out; rep = flat_map view_line lines }

-- a text is written, and each slice has its line, in their order, among those of loops that aren't seen
pub record IsWritten (source out starts : List ℕ) (plan : Plan) : Type 0 where
  pub lines : List ViewLine
  pub slices : filter is_slice_line lines ≡ slice_lines source 1 starts
  pub written : plan ≡ viewed_plan out lines

-- what is seen is written
abbrev pub writes_seen : ViewMap → Schema → List ℕ → Seen → Ends
writes_seen m tables source seen = IsWritten source (seen_text m tables seen) (seen_starts seen)

abbrev pub views : ViewMap → Schema → List ℕ → Ends
views m tables source = sees m tables source (writes_seen m tables source)

-- ---- The command

-- over the bytes of a map, a schema and a source
abbrev pub view_of : List ℕ → List ℕ → List ℕ → Ends
view_of words schema source = has_schema schema (λ tables. has_map tables words (λ m. views m tables source))

abbrev pub view : Given → List ℕ → List ℕ → List ℕ → Ends
view files words schema source =
    reads files words most_map (codes "map") (λ w. reads files schema most_schema (codes "schema") (λ s. reads files source most_source (codes "source") (λ t. view_of w s t)))

-- ---- What it is worth

-- What `view` read, as `words` of the map, `schema` and `source`, and what it wrote, as `out` and `rep`.
pub record IsViewing (words schema source out rep : List ℕ) : Type 0 where
  -- the schema's bytes are a schema, and the map's bytes a map by it
  pub tables : Schema
  pub is_schema : IsSchemaOf schema tables
  pub map : ViewMap
  pub is_map : IsMapOf tables words map
  -- text: what is seen of the source by the map, a well-typed program, or nothing
  pub seen : Seen
  pub is_seen : IsSeen map tables source seen
  pub text : out ≡ seen_text map tables seen
  -- report: where each slice begins, in their order, among lines of loops that aren't seen
  pub lines : List ViewLine
  pub slices : filter is_slice_line lines ≡ slice_lines source 1 (seen_starts seen)
  pub report : rep ≡ flat_map view_line lines

-- all files were read, and both sinks have grown by what is written
pub record IsViewedText (files : Given) (words schema source : List ℕ) (out rep : Change) : Type 0 where
  pub words_read : List ℕ
  pub schema_read : List ℕ
  pub source_read : List ℕ
  pub text : List ℕ
  pub lines : List ℕ
  pub read_words : IsRead files words most_map words_read
  pub read_schema : IsRead files schema most_schema schema_read
  pub read_source : IsRead files source most_source source_read
  pub is : IsViewing words_read schema_read source_read text lines
  pub wrote_text : Appends out.old out.new text
  pub wrote_lines : Appends rep.old rep.new lines

abbrev pub HasViewing : Given → List (List ℕ) → Change → Change → Status → Type 0
HasViewing files words out rep result =
    (map schema source : List ℕ) → HasWords words (commands.View map schema source) → result ≡ Status.Ok → IsViewedText files map schema source out rep

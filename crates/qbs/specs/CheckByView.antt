-- The command `check` by a view: what is seen of a file is looked for anew, and a bundle is checked against it.
use Rattle.std.specs.Prelude.{◌≡◌, ℕ, List, [], codes, false}
use Rattle.std.specs.Io.KnownBytes.{Appends}
use Rattle.std.specs.declared.option.Option.TheVariants.{Some, None}
use Rattle.qbs_base.specs.declared.status.Status.{Status}
use Rattle.qbs_base.specs.Values.{Schema}
use Rattle.java_ast.specs.Tree.{PlainProgram}
use Rattle.deriv_check.specs.Bundles.{Entry}
use Rattle.deriv_check.specs.Grammar.{HasBundle}
use Rattle.view_map.specs.declared.model.ViewMap.{ViewMap}
use Rattle.words.specs.declared.command.Command.TheVariants as commands
use Rattle.words.specs.declared.command.Options.{Options}
use Rattle.words.specs.Plain.{HasWords}
use Rattle.deliveries.specs.Deliver.{Change}
use Rattle.deliveries.specs.Limits.{most_map, most_schema, most_source, most_bundle}
use Rattle.deliveries.specs.Plan.{Given}
use Rattle.deliveries.specs.Steps.{Ends, IsRead, reads}
use Rattle.plans.specs.Opening.{IsSchemaOf, IsMapOf, has_bundle}
use Rattle.qbs.specs.Check.{checks, reads_evidence}
use Rattle.qbs.specs.Evidence.{IsAccepted, IsRefused}
use Rattle.qbs.specs.OpenedByView.{sees_by}
use Rattle.qbs.specs.View.{Seen, Methods, Nothing, IsSeen}

-- ---- What is checked

-- a class without methods stands for a file of which nothing is seen
abbrev pub nothing_program : PlainProgram
nothing_program = record { «package» = None; imports = []; public = false; name = codes "View"; methods = [] }

abbrev pub seen_program : Seen → PlainProgram
seen_program (Methods v p) = p
seen_program Nothing = nothing_program

-- ---- The command

-- over the bytes of a map, a schema, a source and a bundle
abbrev pub check_by_view_of : List ℕ → List ℕ → List ℕ → List ℕ → Ends
check_by_view_of w s t b = sees_by w s t (λ tables m seen. has_bundle b (λ entries. checks tables (seen_program seen) entries))

abbrev pub check_by_view : Given → List ℕ → List ℕ → List ℕ → List ℕ → Ends
check_by_view files words schema source bundle =
    reads files words most_map (codes "map") (λ w. reads_evidence files schema source bundle (λ s t b. check_by_view_of w s t b))

-- ---- What it is worth

-- what `check` by a view said of the bytes of a map, a schema, a source and a bundle
pub record IsCheckedByView (Says : Schema → List Entry → PlainProgram → List ℕ → Type 0) (words schema source bundle said : List ℕ) : Type 0 where
  -- the schema's bytes are a schema, and the map's bytes a map by it
  pub tables : Schema
  pub is_schema : IsSchemaOf schema tables
  pub map : ViewMap
  pub is_map : IsMapOf tables words map
  -- what is seen of the source by the map, and the entries of the bundle
  pub seen : Seen
  pub is_seen : IsSeen map tables source seen
  pub entries : List Entry
  pub is_bundle : HasBundle bundle entries
  pub says : Says tables entries (seen_program seen) said

-- all files were read, and the output has grown by a line
pub record IsCheckByView (files : Given) (Says : Schema → List Entry → PlainProgram → List ℕ → Type 0) (words schema source bundle : List ℕ) (out rep : Change) : Type 0 where
  pub words_read : List ℕ
  pub schema_read : List ℕ
  pub source_read : List ℕ
  pub bundle_read : List ℕ
  pub text : List ℕ
  pub read_words : IsRead files words most_map words_read
  pub read_schema : IsRead files schema most_schema schema_read
  pub read_source : IsRead files source most_source source_read
  pub read_bundle : IsRead files bundle most_bundle bundle_read
  pub is : IsCheckedByView Says words_read schema_read source_read bundle_read text
  pub wrote_text : Appends out.old out.new text
  pub wrote_lines : Appends rep.old rep.new []

-- where `check` by a view ends well, and where it refuses
pub record SaysRightlyByView (files : Given) (words schema source bundle : List ℕ) (out rep : Change) (result : Status) : Type 0 where
  pub well : result ≡ Status.Ok → IsCheckByView files IsAccepted words schema source bundle out rep
  pub refuses : result ≡ Status.Refused → IsCheckByView files IsRefused words schema source bundle out rep

abbrev pub HasCheckByView : Given → List (List ℕ) → Change → Change → Status → Type 0
HasCheckByView files words out rep result =
    (o : Options) (map schema source bundle : List ℕ) → HasWords words (commands.Check o schema source bundle) → o.view ≡ Some map
    → SaysRightlyByView files map schema source bundle out rep result

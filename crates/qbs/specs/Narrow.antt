-- The command `narrow`: walks over tables ask for the rows that they want, and what is promised of the bytes written.
use Rattle.std.specs.Prelude.{◌≡◌, ℕ, List, [], ◌∷◌, codes}
use Rattle.std.specs.List.{flat_map}
use Rattle.qbs_base.specs.declared.span.Span.{Span}
use Rattle.qbs_base.specs.declared.status.Status.{Status}
use Rattle.qbs_base.specs.Values.{Schema}
use Rattle.java_ast.specs.Tree.{PlainProgram}
use Rattle.java_mean.specs.Keeps.{Keeps}
use Rattle.java_mean.specs.WellTyped.{IsWellTyped}
use Rattle.java_types.specs.Texts.{read_by}
use Rattle.kept_texts.specs.Kept.{IsTextFor}
use Rattle.text_patches.specs.Patching.{with_texts}
use Rattle.verdicts.specs.declared.verdict.LoopVerdict.{LoopVerdict}
use Rattle.verdicts.specs.declared.verdict.Said.{Said}
use Rattle.verdicts.specs.declared.verdict.Said.TheVariants as says
use Rattle.rewrite_core.specs.Rewriting.{verdicts_of}
use Rattle.rewrite_core.specs.Trying.{all_tried}
use Rattle.narrowing.specs.Narrowing.{AllNarrowed, all_narrowed}
use Rattle.narrowing.specs.Reports as reports
use Rattle.words.specs.declared.command.Command.TheVariants as commands
use Rattle.words.specs.declared.command.Options.{Options}
use Rattle.words.specs.Plain.{HasWords}
use Rattle.deliveries.specs.declared.plan.Plan.{Plan}
use Rattle.deliveries.specs.Deliver.{Change}
use Rattle.deliveries.specs.Limits.{most_schema, most_source}
use Rattle.deliveries.specs.Plan.{Given}
use Rattle.deliveries.specs.Steps.{Ends, reads}
use Rattle.plans.specs.Opening.{IsSchemaOf, IsProgramOf, has_schema, has_program}
use Rattle.qbs.specs.Again.{IsReadAgain}
use Rattle.qbs.specs.Written.{HasWritten}

-- ---- Loops that a query stands for

-- where the loop begins, if a candidate was found for it
abbrev pub start_if_found : Span → Said → List ℕ
start_if_found at (says.Found k) = at.start ∷ []
start_if_found at said = []

abbrev pub start_found : LoopVerdict → List ℕ
start_found v = start_if_found v.at v.said

-- where those loops of a program begin that `rewrite` puts queries in place of, with its own limits
abbrev pub covered_in : Schema → PlainProgram → List ℕ
covered_in tables p = flat_map start_found (verdicts_of (all_tried tables 4 20000 p))

-- all walks of a program narrowed but for these
abbrev pub narrowed : Schema → PlainProgram → AllNarrowed
narrowed tables p = all_narrowed tables (covered_in tables p) p

-- ---- What is written

abbrev pub narrowed_plan : List ℕ → List ℕ → Plan
narrowed_plan out rep = record { status = Status.Ok; out = out; rep = rep }

-- The text is read back as the narrowed program, also by what weighs how deep it is: it is the source with queries in place of fetches, wherever
-- that is so.
pub record Narrows (tables : Schema) (source : List ℕ) (p : PlainProgram) (plan : Plan) : Type 0 where
  pub well : IsWellTyped tables (read_by tables) (narrowed tables p).program
  pub keeps : Keeps p (narrowed tables p).program tables
  pub out : List ℕ
  pub text : IsTextFor (with_texts source 0 (narrowed tables p).patches) (narrowed tables p).program out
  pub again : IsReadAgain tables out (narrowed tables p).program
  pub written : plan ≡ narrowed_plan out (reports.report_text (narrowed tables p).walks)

-- ---- The command

-- over the bytes of a schema and a source
abbrev pub narrow_of : List ℕ → List ℕ → Ends
narrow_of schema source = has_schema schema (λ tables. has_program tables source (λ p. Narrows tables source p))

abbrev pub narrow : Given → List ℕ → List ℕ → Ends
narrow files schema source =
    reads files schema most_schema (codes "schema") (λ s. reads files source most_source (codes "source") (λ t. narrow_of s t))

-- ---- What it is worth

-- What `narrow` read, as `schema` and `source`, and what it wrote, as `out` and `rep`.
pub record IsNarrowing (schema source out rep : List ℕ) : Type 0 where
  -- the schema's bytes are a schema, and the source's bytes have a well-typed program under it
  pub tables : Schema
  pub program : PlainProgram
  pub is_schema : IsSchemaOf schema tables
  pub is_program : IsProgramOf tables source program
  -- text: the bytes written have a well-typed program, of which none is too deep; they are the source with queries in place of fetches, wherever
  -- that is a text of the narrowed program
  pub written : PlainProgram
  pub is_written : IsProgramOf tables out written
  pub output : IsTextFor (with_texts source 0 (narrowed tables program).patches) (narrowed tables program).program out
  -- meaning
  pub keeps : Keeps program written tables
  -- report: a line for each for-each, and how many were narrowed
  pub report : rep ≡ reports.report_text (narrowed tables program).walks

-- both files were read, and both sinks have grown by what is written
abbrev pub IsNarrowedText : Given → List ℕ → List ℕ → Change → Change → Type 0
IsNarrowedText files schema source out rep = HasWritten files schema source IsNarrowing out rep

abbrev pub HasNarrowing : Given → List (List ℕ) → Change → Change → Status → Type 0
HasNarrowing files words out rep result =
    (o : Options) (schema source : List ℕ) → HasWords words (commands.Narrow o schema source) → result ≡ Status.Ok → IsNarrowedText files schema source out rep

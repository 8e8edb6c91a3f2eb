-- The command `unnest`: loops that ask for rows in each turn give way to one query, and what is promised of the bytes written.
use Rattle.std.specs.Prelude.{◌≡◌, ℕ, List, codes}
use Rattle.qbs_base.specs.declared.status.Status.{Status}
use Rattle.qbs_base.specs.Values.{Schema}
use Rattle.java_ast.specs.Tree.{PlainProgram}
use Rattle.java_mean.specs.Keeps.{Keeps}
use Rattle.java_mean.specs.WellTyped.{IsWellTyped}
use Rattle.java_types.specs.Texts.{read_by}
use Rattle.rewrite_core.specs.Patches.{patched_text}
use Rattle.rewrite_core.specs.Trying.{Tried}
use Rattle.rewrite_core.specs.Unnesting.{all_unnested, unnested, unnest_report}
use Rattle.words.specs.declared.command.Command.TheVariants as commands
use Rattle.words.specs.declared.command.Options.{Options}
use Rattle.words.specs.Plain.{HasWords}
use Rattle.deliveries.specs.declared.plan.Plan.{Plan}
use Rattle.deliveries.specs.Deliver.{Change}
use Rattle.deliveries.specs.Limits.{most_schema, most_source}
use Rattle.deliveries.specs.Plan.{Given}
use Rattle.deliveries.specs.Steps.{Ends, reads}
use Rattle.plans.specs.Opening.{IsSchemaOf, IsProgramOf, has_schema, has_program}
use Rattle.qbs.specs.Again.{IsReadAgain}
use Rattle.qbs.specs.Rewrite.{size_of, budget_of}
use Rattle.qbs.specs.Written.{HasWritten}

-- ---- What is written

abbrev pub unnested_plan : List ℕ → List Tried → Plan
unnested_plan out tries = record { status = Status.Ok; out = out; rep = unnest_report tries }

-- The source is written with statements in place of what gave way, which is read again as the program that is left, and a line for each loop
-- that gave way.
pub record Unnests (tables : Schema) (size budget : ℕ) (source : List ℕ) (p : PlainProgram) (plan : Plan) : Type 0 where
  pub well : IsWellTyped tables (read_by tables) (unnested tables size budget p)
  pub keeps : Keeps p (unnested tables size budget p) tables
  pub out : List ℕ
  pub output : out ≡ patched_text source (all_unnested tables size budget p)
  pub text : IsReadAgain tables out (unnested tables size budget p)
  pub written : plan ≡ unnested_plan out (all_unnested tables size budget p)

-- ---- The command

-- over the bytes of a schema and a source
abbrev pub unnest_of : Options → List ℕ → List ℕ → Ends
unnest_of o schema source = has_schema schema (λ tables. has_program tables source (λ p. Unnests tables (size_of o) (budget_of o) source p))

abbrev pub unnest : Given → Options → List ℕ → List ℕ → Ends
unnest files o schema source =
    reads files schema most_schema (codes "schema") (λ s. reads files source most_source (codes "source") (λ t. unnest_of o s t))

-- ---- What it is worth

-- What `unnest` read, as `schema` and `source`, and what it wrote, as `out` and `rep`.
pub record IsUnnested (size budget : ℕ) (schema source out rep : List ℕ) : Type 0 where
  -- the schema's bytes are a schema, and the source's bytes have a well-typed program under it
  pub tables : Schema
  pub program : PlainProgram
  pub is_schema : IsSchemaOf schema tables
  pub is_program : IsProgramOf tables source program
  -- the loops whose spreads were found a candidate for, in their order, each on the program as it stood
  pub tries : List Tried
  pub are_tries : tries ≡ all_unnested tables size budget program
  -- text: the bytes written have a well-typed program, of which none is too deep; they are the source with statements in place of these loops
  -- and their runs, and all other bytes stay
  pub written : PlainProgram
  pub is_written : IsProgramOf tables out written
  pub output : out ≡ patched_text source tries
  -- meaning
  pub keeps : Keeps program written tables
  -- report: a line for each loop that gave way, and how many they are
  pub report : rep ≡ unnest_report tries

-- both files were read, and both sinks have grown by what is written
abbrev pub IsUnnestedText : Given → Options → List ℕ → List ℕ → Change → Change → Type 0
IsUnnestedText files o schema source out rep = HasWritten files schema source (IsUnnested (size_of o) (budget_of o)) out rep

abbrev pub HasUnnesting : Given → List (List ℕ) → Change → Change → Status → Type 0
HasUnnesting files words out rep result =
    (o : Options) (schema source : List ℕ) → HasWords words (commands.Unnest o schema source) → result ≡ Status.Ok → IsUnnestedText files o schema source out rep

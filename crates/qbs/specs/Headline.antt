-- The headline: what `rewrite` wrote where it ends well, of the very program and the very bytes that were read.
use Rattle.std.specs.Prelude.{◌≡◌, ◌⊎◌, ℕ, List, ◌++◌}
use Rattle.std.specs.Io.KnownBytes.{Appends}
use Rattle.std.specs.declared.option.Option.{Option}
use Rattle.std.specs.declared.option.Option.TheVariants.{None}
use Rattle.qbs_base.specs.declared.status.Status.{Status}
use Rattle.qbs_base.specs.Values.{Schema}
use Rattle.java_ast.specs.Tree.{PlainProgram}
use Rattle.java_ast.specs.Unplaced.{unplaced_program}
use Rattle.java_mean.specs.Keeps.{Keeps}
use Rattle.small_dbs.specs.declared.small.SmallDb.{SmallDb}
use Rattle.rewrite_core.specs.Patches.{patched_text}
use Rattle.rewrite_core.specs.Pruned.{ArePruned}
use Rattle.rewrite_core.specs.Rewriting.{StandAsTried}
use Rattle.rewrite_core.specs.Trying.{Tried, all_tried}
use Rattle.words.specs.declared.command.Command.TheVariants as commands
use Rattle.words.specs.declared.command.Options.{Options}
use Rattle.words.specs.Plain.{HasWords}
use Rattle.deliveries.specs.Deliver.{Change}
use Rattle.deliveries.specs.Plan.{Given}
use Rattle.plans.specs.Opening.{IsSchemaOf, IsProgramOf}
use Rattle.verdicts.specs.Reports.{pruned_line}
use Rattle.qbs.specs.Reports.{report_text}
use Rattle.qbs.specs.Pruners.{May, with_bank}
use Rattle.qbs.specs.Rewrite.{size_of, budget_of}
use Rattle.qbs.specs.Store.{IsBankOf}
use Rattle.qbs.specs.Written.{HasWrittenBeside}

-- What `rewrite` read, as `schema` and `source`, and as `store` where the words name one, and what it wrote, as `out` and `rep`.
pub record IsRewritten (may : May) (size budget : ℕ) (schema source : List ℕ) (store : Option (List ℕ)) (out rep : List ℕ) : Type 0 where
  -- the schema's bytes are a schema, and the source's bytes have a well-typed program under it
  pub tables : Schema
  pub program : PlainProgram
  pub is_schema : IsSchemaOf schema tables
  pub is_program : IsProgramOf tables source program
  -- the loops of the program that were tried, in their order, each on the program as it stood
  pub tries : List Tried
  pub are_tries : tries ≡ all_tried tables size budget program
  -- text: the bytes written have a well-typed program, of which none is too deep; they are the source with statements in place of the loops that
  -- gave way and their runs, and all other bytes stay
  pub written : PlainProgram
  pub is_written : IsProgramOf tables out written
  pub output : out ≡ patched_text source tries
  -- meaning
  pub keeps : Keeps program written tables
  -- report: a line for each loop that was tried, and how many candidates were dropped, by the pruners or by the bank of the store
  pub pruned : ℕ
  pub bank : Option (List SmallDb)
  pub is_bank : IsBankOf tables store bank
  pub counted : ArePruned (with_bank may bank).drops (with_bank may bank).keeps size tries pruned
  pub report : rep ≡ report_text tries pruned
  -- each loop that is left stands as it was tried, in the program written but for its places
  pub left : PlainProgram
  pub alike : unplaced_program written ≡ unplaced_program left
  pub standing : StandAsTried tries left

-- the files were read, and both sinks have grown by what is written
abbrev pub IsHeadline : Given → May → Options → List ℕ → List ℕ → Change → Change → Type 0
IsHeadline files may o schema source out rep = HasWrittenBeside files schema source o.store (IsRewritten may (size_of o) (budget_of o)) out rep

-- without a view
abbrev pub HasHeadline : Given → May → List (List ℕ) → Change → Change → Status → Type 0
HasHeadline files may words out rep result =
    (o : Options) (schema source : List ℕ) → HasWords words (commands.Rewrite o schema source) → o.view ≡ None → result ≡ Status.Ok → IsHeadline files may o schema source out rep

-- the report of `rewrite`, or of `prove`, says last that no candidate was dropped, where the words name no store
abbrev pub DropsNone : List (List ℕ) → Change → Status → Type 0
DropsNone words rep result =
    (o : Options) (schema source : List ℕ) → HasWords words (commands.Rewrite o schema source) ⊎ HasWords words (commands.Prove o schema source) → o.store ≡ None → result ≡ Status.Ok → (lines : List ℕ) × Appends rep.old rep.new (lines ++ pruned_line 0)

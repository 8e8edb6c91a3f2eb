-- What bundles are worth: what `prove` wrote and what `check` said, of the very program and the very bytes that were read.
use Rattle.std.specs.Prelude.{◌≡◌, ℕ, List, [], length}
use Rattle.std.specs.Io.KnownBytes.{Appends}
use Rattle.std.specs.declared.option.Option.{Option}
use Rattle.std.specs.declared.option.Option.TheVariants.{None}
use Rattle.qbs_base.specs.declared.status.Status.{Status}
use Rattle.qbs_base.specs.Values.{Schema}
use Rattle.java_ast.specs.Tree.{PlainProgram}
use Rattle.deriv_check.specs.Bundles.{Entry}
use Rattle.deriv_check.specs.Grammar.{HasBundle}
use Rattle.small_dbs.specs.declared.small.SmallDb.{SmallDb}
use Rattle.rewrite_core.specs.Checking.{Refused, checked_from}
use Rattle.rewrite_core.specs.Pruned.{ArePruned}
use Rattle.rewrite_core.specs.Rewriting.{StandAsTried}
use Rattle.rewrite_core.specs.Trying.{all_tried, rewritten}
use Rattle.words.specs.declared.command.Command.TheVariants as commands
use Rattle.words.specs.declared.command.Options.{Options}
use Rattle.words.specs.Plain.{HasWords}
use Rattle.deliveries.specs.Limits.{most_schema, most_source, most_bundle}
use Rattle.deliveries.specs.Deliver.{Change}
use Rattle.plans.specs.Opening.{IsSchemaOf, IsProgramOf}
use Rattle.deliveries.specs.Plan.{Given}
use Rattle.deliveries.specs.Steps.{IsRead}
use Rattle.qbs.specs.Check.{AreAccepted, accepted_line, refused_line}
use Rattle.qbs.specs.Reports.{report_text}
use Rattle.qbs.specs.Pruners.{May, with_bank}
use Rattle.qbs.specs.Prove.{entries_for}
use Rattle.qbs.specs.Rewrite.{size_of, budget_of}
use Rattle.qbs.specs.Store.{IsBankOf}
use Rattle.qbs.specs.Written.{HasWrittenBeside}

-- ---- `prove`

-- what `prove` wrote for the bytes of a schema and a source, and of a store where the words name one
pub record IsProved (may : May) (size budget : ℕ) (schema source : List ℕ) (store : Option (List ℕ)) (out rep : List ℕ) : Type 0 where
  -- the schema, and the well-typed program that the source has
  pub tables : Schema
  pub program : PlainProgram
  pub is_schema : IsSchemaOf schema tables
  pub is_program : IsProgramOf tables source program
  -- What is written is the bundle of all loops that gave way. Its entries are accepted, and make the program after all tries, which is well
  -- typed and does what the program read does.
  pub bundle : HasBundle out (entries_for tables size budget program)
  pub accepted : AreAccepted tables (entries_for tables size budget program) program (rewritten tables size budget program)
  -- report: a line for each loop that was tried, and how many candidates were dropped, by the pruners or by the bank of the store
  pub pruned : ℕ
  pub bank : Option (List SmallDb)
  pub is_bank : IsBankOf tables store bank
  pub counted : ArePruned (with_bank may bank).drops (with_bank may bank).keeps size (all_tried tables size budget program) pruned
  pub report : rep ≡ report_text (all_tried tables size budget program) pruned
  -- each loop that no entry is of stands as it was tried
  pub standing : StandAsTried (all_tried tables size budget program) (rewritten tables size budget program)

-- the files were read, and both sinks have grown by what is written
abbrev pub IsProof : Given → May → Options → List ℕ → List ℕ → Change → Change → Type 0
IsProof files may o schema source out rep = HasWrittenBeside files schema source o.store (IsProved may (size_of o) (budget_of o)) out rep

-- without a view
abbrev pub HasProof : Given → May → List (List ℕ) → Change → Change → Status → Type 0
HasProof files may words out rep result =
    (o : Options) (schema source : List ℕ) → HasWords words (commands.Prove o schema source) → o.view ≡ None → result ≡ Status.Ok → IsProof files may o schema source out rep

-- ---- `check`

-- the entries of a bundle are accepted, so many as the line says
pub record IsAccepted (tables : Schema) (entries : List Entry) (p : PlainProgram) (said : List ℕ) : Type 0 where
  -- they make a program, which is well typed and does what the program read does
  pub made : PlainProgram
  pub accepted : AreAccepted tables entries p made
  pub is : said ≡ accepted_line (length entries)

-- the first entry that isn't accepted has the ordinal that the line says
pub record IsRefused (tables : Schema) (entries : List Entry) (p : PlainProgram) (said : List ℕ) : Type 0 where
  pub ordinal : ℕ
  pub refused : checked_from tables 0 entries p ≡ Refused ordinal
  pub is : said ≡ refused_line ordinal

-- what `check` said of the bytes of a schema, a source and a bundle
pub record IsChecked (Says : Schema → List Entry → PlainProgram → List ℕ → Type 0) (schema source bundle said : List ℕ) : Type 0 where
  -- the schema, the well-typed program that the source has, and the entries of the bundle
  pub tables : Schema
  pub program : PlainProgram
  pub entries : List Entry
  pub is_schema : IsSchemaOf schema tables
  pub is_program : IsProgramOf tables source program
  pub is_bundle : HasBundle bundle entries
  pub says : Says tables entries program said

-- all three files were read, and the output has grown by a line
pub record IsCheck (files : Given) (Says : Schema → List Entry → PlainProgram → List ℕ → Type 0) (schema source bundle : List ℕ) (out rep : Change) : Type 0 where
  pub schema_read : List ℕ
  pub source_read : List ℕ
  pub bundle_read : List ℕ
  pub text : List ℕ
  pub read_schema : IsRead files schema most_schema schema_read
  pub read_source : IsRead files source most_source source_read
  pub read_bundle : IsRead files bundle most_bundle bundle_read
  pub is : IsChecked Says schema_read source_read bundle_read text
  pub wrote_text : Appends out.old out.new text
  pub wrote_lines : Appends rep.old rep.new []

-- where `check` ends well, and where it refuses
pub record SaysRightly (files : Given) (schema source bundle : List ℕ) (out rep : Change) (result : Status) : Type 0 where
  pub well : result ≡ Status.Ok → IsCheck files IsAccepted schema source bundle out rep
  pub refuses : result ≡ Status.Refused → IsCheck files IsRefused schema source bundle out rep

-- without a view
abbrev pub HasCheck : Given → List (List ℕ) → Change → Change → Status → Type 0
HasCheck files words out rep result =
    (o : Options) (schema source bundle : List ℕ) → HasWords words (commands.Check o schema source bundle) → o.view ≡ None → SaysRightly files schema source bundle out rep result

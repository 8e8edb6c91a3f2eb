-- The command `rewrite`: the loops of a program are tried, and the source is written with patches in place of those that gave way.
use Rattle.std.specs.Prelude.{◌≡◌, ℕ, List}
use Rattle.std.specs.declared.option.Option.{Option}
use Rattle.std.specs.declared.option.Option.TheVariants.{Some, None}
use Rattle.qbs_base.specs.declared.status.Status.{Status}
use Rattle.qbs_base.specs.Values.{Schema}
use Rattle.java_ast.specs.Tree.{PlainProgram}
use Rattle.java_mean.specs.Keeps.{Keeps}
use Rattle.java_mean.specs.WellTyped.{IsWellTyped}
use Rattle.java_types.specs.Texts.{read_by}
use Rattle.rewrite_core.specs.Patches.{patched_text}
use Rattle.rewrite_core.specs.Pruned.{ArePruned}
use Rattle.rewrite_core.specs.Rewriting.{StandAsTried}
use Rattle.rewrite_core.specs.Trying.{all_tried, rewritten}
use Rattle.words.specs.declared.command.Options.{Options}
use Rattle.deliveries.specs.declared.plan.Plan.{Plan}
use Rattle.deliveries.specs.Plan.{Given}
use Rattle.deliveries.specs.Steps.{Ends}
use Rattle.qbs.specs.Again.{IsReadAgain}
use Rattle.qbs.specs.Reports.{report_text}
use Rattle.qbs.specs.Pruners.{May, with_bank}
use Rattle.qbs.specs.Opened.{reads_all, has_all}

-- ---- Options

abbrev pub or_default : ℕ → Option ℕ → ℕ
or_default default None = default
or_default default (Some n) = n

-- of at most so many formulas, and so many candidates of each loop
abbrev pub size_of : Options → ℕ
size_of o = or_default 4 o.size

abbrev pub budget_of : Options → ℕ
budget_of o = or_default 20000 o.candidates

-- ---- What is written

-- what rewriting a program gives: one that is well typed and does what this does, and its loops are those that were tried and stand
pub record IsRewriting (tables : Schema) (size budget : ℕ) (p : PlainProgram) : Type 0 where
  pub well : IsWellTyped tables (read_by tables) (rewritten tables size budget p)
  pub keeps : Keeps p (rewritten tables size budget p) tables
  pub standing : StandAsTried (all_tried tables size budget p) (rewritten tables size budget p)

abbrev pub rewriting_plan : Schema → ℕ → ℕ → PlainProgram → List ℕ → ℕ → Plan
rewriting_plan tables size budget p out pruned =
    record { status = Status.Ok; out = out; rep = report_text (all_tried tables size budget p) pruned }

-- The source is written with statements in place of what gave way, which is read again as the program that is left, and what is said of each loop.
pub record Rewrites (may : May) (tables : Schema) (size budget : ℕ) (source : List ℕ) (p : PlainProgram) (plan : Plan) : Type 0 where
  pub rewriting : IsRewriting tables size budget p
  pub out : List ℕ
  pub output : out ≡ patched_text source (all_tried tables size budget p)
  pub text : IsReadAgain tables out (rewritten tables size budget p)
  pub pruned : ℕ
  pub counted : ArePruned may.drops may.keeps size (all_tried tables size budget p) pruned
  pub written : plan ≡ rewriting_plan tables size budget p out pruned

-- ---- The command

-- over the bytes of a schema and a source, and of a store, where there is one
abbrev pub rewrite_of : May → Options → List ℕ → List ℕ → Option (List ℕ) → Ends
rewrite_of may o schema source store = has_all schema source store (λ tables p bank. Rewrites (with_bank may bank) tables (size_of o) (budget_of o) source p)

abbrev pub rewrite : Given → May → Options → List ℕ → List ℕ → Ends
rewrite files may o schema source = reads_all files schema source o.store (λ s t b. rewrite_of may o s t b)

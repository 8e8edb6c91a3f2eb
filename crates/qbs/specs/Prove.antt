-- The command `prove`: loops are tried as `rewrite` tries them, and the bundle of those that gave way is written.
use Rattle.std.specs.Prelude.{◌≡◌, ℕ, List, length}
use Rattle.std.specs.declared.option.Option.{Option}
use Rattle.qbs_base.specs.Values.{Schema}
use Rattle.java_ast.specs.Tree.{PlainProgram}
use Rattle.deriv_check.specs.Bundles.{Entry}
use Rattle.deriv_check.specs.Grammar.{HasBundle}
use Rattle.deriv_check.specs.Texts.{bundle_text}
use Rattle.rewrite_core.specs.Checking.{All, checked_from}
use Rattle.rewrite_core.specs.Pruned.{ArePruned}
use Rattle.rewrite_core.specs.Rewriting.{bundle_of}
use Rattle.rewrite_core.specs.Trying.{all_tried, rewritten}
use Rattle.words.specs.declared.command.Options.{Options}
use Rattle.deliveries.specs.declared.plan.Plan.{Plan}
use Rattle.deliveries.specs.Plan.{Given}
use Rattle.deliveries.specs.Steps.{Ends}
use Rattle.qbs.specs.Pruners.{May, with_bank}
use Rattle.qbs.specs.Opened.{reads_all, has_all}
use Rattle.qbs.specs.Rewrite.{size_of, budget_of, IsRewriting, rewriting_plan}

-- an entry for each loop that gives way, in the order of the tries
abbrev pub entries_for : Schema → ℕ → ℕ → PlainProgram → List Entry
entries_for tables size budget p = bundle_of (all_tried tables size budget p)

-- The text of the entries is read as those entries, of which each is accepted; they make the rewritten program. So many candidates were dropped.
pub record HasEvidence (may : May) (tables : Schema) (size budget : ℕ) (p : PlainProgram) (pruned : ℕ) : Type 0 where
  pub rewriting : IsRewriting tables size budget p
  pub member : HasBundle (bundle_text (entries_for tables size budget p)) (entries_for tables size budget p)
  pub accepted : checked_from tables 0 (entries_for tables size budget p) p ≡ All (length (entries_for tables size budget p)) (rewritten tables size budget p)
  pub counted : ArePruned may.drops may.keeps size (all_tried tables size budget p) pruned

-- The text of the entries is written, and what is said of each loop.
pub record Proves (may : May) (tables : Schema) (size budget : ℕ) (p : PlainProgram) (plan : Plan) : Type 0 where
  pub pruned : ℕ
  pub evidence : HasEvidence may tables size budget p pruned
  pub written : plan ≡ rewriting_plan tables size budget p (bundle_text (entries_for tables size budget p)) pruned

-- ---- The command

-- over the bytes of a schema and a source, and of a store, where there is one
abbrev pub prove_of : May → Options → List ℕ → List ℕ → Option (List ℕ) → Ends
prove_of may o schema source store = has_all schema source store (λ tables p bank. Proves (with_bank may bank) tables (size_of o) (budget_of o) p)

abbrev pub prove : Given → May → Options → List ℕ → List ℕ → Ends
prove files may o schema source = reads_all files schema source o.store (λ s t b. prove_of may o s t b)

-- What a rewriting answers is what is written.
use Rattle.std.proofs.Common.{◌≡◌, ℕ, List, ◌++◌, ap, ◌∙◌, subst}
use Rattle.std.specs.List.{flat_map}
use Rattle.qbs_base.specs.declared.status.Status.{Status}
use Rattle.qbs_base.specs.Values.{Schema}
use Rattle.java_ast.specs.Tree.{PlainProgram}
use Rattle.java_mean.specs.Keeps.{Keeps}
use Rattle.java_mean.specs.WellTyped.{IsWellTyped}
use Rattle.java_types.specs.Texts.{read_by}
use Rattle.verdicts.specs.declared.verdict.LoopVerdict.{LoopVerdict}
use Rattle.rewrite_core.specs.Output.{IsSourceOf}
use Rattle.rewrite_core.specs.Patches.{patched_text}
use Rattle.rewrite_core.specs.Pruned.{ArePruned}
use Rattle.rewrite_core.specs.Rewriting.{verdicts_of, StandAsTried}
use Rattle.rewrite_core.specs.Trying.{all_tried, rewritten}
use Rattle.deliveries.specs.declared.plan.Plan.{Plan}
use Rattle.plans.specs.Opening.{IsProgramOf}
use Rattle.verdicts.specs.Reports.{verdict_line, pruned_line}
use Rattle.qbs.specs.Again.{IsReadAgain}
use Rattle.qbs.specs.Pruners.{May}
use Rattle.qbs.specs.Rewrite.{IsRewriting, Rewrites}

pub is_source : (tables : Schema) (bytes : List ℕ) (p : PlainProgram) → IsProgramOf tables bytes p → IsSourceOf bytes p
is_source tables bytes p read = record { tokens = read.tokens; lexed_as = read.has_tokens; reads = read.has_program }

pub is_rewriting : (tables : Schema) (size budget : ℕ) (p r : PlainProgram) → r ≡ rewritten tables size budget p →
    IsWellTyped tables (read_by tables) r → Keeps p r tables → StandAsTried (all_tried tables size budget p) r → IsRewriting tables size budget p
is_rewriting tables size budget p r is well keeps standing =
    record {
      well = subst (IsWellTyped tables (read_by tables)) is well;
      keeps = subst (λ (q : PlainProgram). Keeps p q tables) is keeps;
      standing = subst (StandAsTried (all_tried tables size budget p)) is standing;
    }

abbrev plan_with : List ℕ → List ℕ → Plan
plan_with a b = record { status = Status.Ok; out = a; rep = b }

pub rewrote : (may : May) (tables : Schema) (size budget : ℕ) (source : List ℕ) (p r : PlainProgram) (out : List ℕ) (verdicts : List LoopVerdict) (dropped : ℕ) (plan : Plan) →
    r ≡ rewritten tables size budget p → verdicts ≡ verdicts_of (all_tried tables size budget p) →
    ArePruned may.drops may.keeps size (all_tried tables size budget p) dropped →
    IsWellTyped tables (read_by tables) r → Keeps p r tables → StandAsTried (all_tried tables size budget p) r →
    out ≡ patched_text source (all_tried tables size budget p) → IsReadAgain tables out r →
    plan ≡ plan_with out (flat_map verdict_line verdicts ++ pruned_line dropped) →
    Rewrites may tables size budget source p plan
rewrote may tables size budget source p r out verdicts dropped plan is said counted well keeps standing output back due =
    record {
      rewriting = is_rewriting tables size budget p r is well keeps standing;
      out = out;
      output = output;
      text = subst (λ (q : PlainProgram). IsReadAgain tables out q) is back;
      pruned = dropped;
      counted = counted;
      written = due ∙ ap (λ (vs : List LoopVerdict). plan_with out (flat_map verdict_line vs ++ pruned_line dropped)) said;
    }

-- the same for the numbers that options stand for
pub rewrote_as : (may : May) (tables : Schema) (size size_in budget budget_in : ℕ) (source : List ℕ) (p r : PlainProgram) (out : List ℕ) (verdicts : List LoopVerdict) (dropped : ℕ) (plan : Plan) →
    size ≡ size_in → budget ≡ budget_in →
    r ≡ rewritten tables size budget p → verdicts ≡ verdicts_of (all_tried tables size budget p) →
    ArePruned may.drops may.keeps size (all_tried tables size budget p) dropped →
    IsWellTyped tables (read_by tables) r → Keeps p r tables → StandAsTried (all_tried tables size budget p) r →
    out ≡ patched_text source (all_tried tables size budget p) → IsReadAgain tables out r →
    plan ≡ plan_with out (flat_map verdict_line verdicts ++ pruned_line dropped) →
    Rewrites may tables size_in budget_in source p plan
rewrote_as may tables size size_in budget budget_in source p r out verdicts dropped plan same_size same_budget is said counted well keeps standing output back due =
    subst (λ (s : ℕ). Rewrites may tables s budget_in source p plan) same_size
    (subst (λ (b : ℕ). Rewrites may tables size b source p plan) same_budget
    (rewrote may tables size budget source p r out verdicts dropped plan is said counted well keeps standing output back due))

pub is_rewriting_as : (tables : Schema) (size size_in budget budget_in : ℕ) (p r : PlainProgram) → size ≡ size_in → budget ≡ budget_in → r ≡ rewritten tables size budget p →
    IsWellTyped tables (read_by tables) r → Keeps p r tables → StandAsTried (all_tried tables size budget p) r → IsRewriting tables size_in budget_in p
is_rewriting_as tables size size_in budget budget_in p r same_size same_budget is well keeps standing =
    subst (λ (s : ℕ). IsRewriting tables s budget_in p) same_size
    (subst (λ (b : ℕ). IsRewriting tables size b p) same_budget (is_rewriting tables size budget p r is well keeps standing))

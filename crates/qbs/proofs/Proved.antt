-- What a rewriting answers is what `prove` writes, and its bundle is accepted.
use Rattle.std.proofs.Common.{◌≡◌, ℕ, ◌<◌, ◌≤◌, ◌^◌, List, ◌++◌, length, refl, ap, ◌∙◌, subst, arith}
use Rattle.std.specs.List.{flat_map}
use Rattle.qbs_base.specs.declared.status.Status.{Status}
use Rattle.qbs_base.specs.Values.{Schema}
use Rattle.java_ast.specs.Tree.{PlainProgram}
use Rattle.java_mean.specs.Keeps.{Keeps}
use Rattle.java_mean.specs.WellTyped.{IsWellTyped}
use Rattle.java_grammar.specs.Marks.{all_strict}
use Rattle.java_grammar.proofs.TwoPlaces.{strict_tokens, one_path}
use Rattle.java_types.specs.Texts.{read_by}
use Rattle.deriv_check.specs.Bundles.{Entry}
use Rattle.text_readers.specs.Offsets.{Each}
use Rattle.deriv_check.specs.Grammar.{IsWritableEntry}
use Rattle.deriv_check.specs.Texts.{bundle_text}
use Rattle.verdicts.specs.declared.verdict.LoopVerdict.{LoopVerdict}
use Rattle.rewrite_core.specs.Checking.{LoopsStandApart}
use Rattle.rewrite_core.specs.Pruned.{ArePruned}
use Rattle.rewrite_core.specs.Rewriting.{bundle_of, verdicts_of, StandAsTried}
use Rattle.rewrite_core.specs.Trying.{all_tried, rewritten}
use Rattle.rewrite_core.proofs.AcceptedBundles.{bundle_accepted}
use Rattle.rewrite_core.proofs.WritableBundles.{bundle_writable}
use Rattle.deliveries.specs.Limits.{most_source}
use Rattle.deliveries.specs.declared.plan.Plan.{Plan}
use Rattle.plans.specs.Opening.{IsProgramOf}
use Rattle.verdicts.specs.Reports.{verdict_line, pruned_line}
use Rattle.qbs.specs.Pruners.{May}
use Rattle.qbs.specs.Prove.{entries_for, Proves}
use Rattle.qbs.specs.Proven.{IsProven}
use Rattle.qbs.specs.declared.prove.Proven.{Proven}
use Rattle.qbs.proofs.Rewrote.{is_rewriting}

short_source : (n : ℕ) → n ≤ most_source → n < 2 ^ 32
short_source n h = omega arith

module _ (tables : Schema) (source : List ℕ) (p : PlainProgram) (read : IsProgramOf tables source p) where
  loops_apart : LoopsStandApart p
  loops_apart m n a b first other l = one_path source read.tokens (all_strict read.tokens.list) p read.has_tokens (strict_tokens read.tokens.list) read.has_program a b l

  entries_written : (size budget : ℕ) → budget ≤ 1000000 → length source ≤ most_source → Each IsWritableEntry (entries_for tables size budget p)
  entries_written size budget few short = bundle_writable tables size budget source read.tokens p few (short_source (length source) short) read.has_tokens read.has_program

module _ (may : May) (tables : Schema) (size budget : ℕ) (source : List ℕ) (p r : PlainProgram) (entries : List Entry) (verdicts : List LoopVerdict) (dropped : ℕ) (text : List ℕ) where
  proven : size ≤ 8 → budget ≤ 1000000 → length source ≤ most_source → IsProgramOf tables source p →
      r ≡ rewritten tables size budget p → verdicts ≡ verdicts_of (all_tried tables size budget p) → entries ≡ entries_for tables size budget p →
      ArePruned may.drops may.keeps size (all_tried tables size budget p) dropped →
      IsWellTyped tables (read_by tables) r → Keeps p r tables → StandAsTried (all_tried tables size budget p) r →
      text ≡ bundle_text entries → IsProven may tables size budget p (record { bundle = text; verdicts = verdicts; dropped = dropped })
  proven few_formulas few short read is said bundled counted well keeps standing printed =
      record {
        evidence = record {
          rewriting = is_rewriting tables size budget p r is well keeps standing;
          member = (refl, entries_written tables source p read size budget few short);
          accepted = bundle_accepted tables size budget p few_formulas (loops_apart tables source p read);
          counted = counted;
        };
        bundle = printed ∙ ap bundle_text bundled;
        verdicts = said;
      }

  -- the same for the numbers that options stand for
  pub proven_as : (size_in budget_in : ℕ) → size ≡ size_in → budget ≡ budget_in →
      size ≤ 8 → budget ≤ 1000000 → length source ≤ most_source → IsProgramOf tables source p →
      r ≡ rewritten tables size budget p → verdicts ≡ verdicts_of (all_tried tables size budget p) → entries ≡ bundle_of (all_tried tables size budget p) →
      ArePruned may.drops may.keeps size (all_tried tables size budget p) dropped →
      IsWellTyped tables (read_by tables) r → Keeps p r tables → StandAsTried (all_tried tables size budget p) r →
      text ≡ bundle_text entries → IsProven may tables size_in budget_in p (record { bundle = text; verdicts = verdicts; dropped = dropped })
  proven_as size_in budget_in same_size same_budget few_formulas few short read is said bundled counted well keeps standing printed =
      subst (λ (s : ℕ). IsProven may tables s budget_in p (record { bundle = text; verdicts = verdicts; dropped = dropped })) same_size
      (subst (λ (b : ℕ). IsProven may tables size b p (record { bundle = text; verdicts = verdicts; dropped = dropped })) same_budget
      (proven few_formulas few short read is said bundled counted well keeps standing printed))

abbrev plan_with : List ℕ → List ℕ → Plan
plan_with a b = record { status = Status.Ok; out = a; rep = b }

pub proves_by : (may : May) (tables : Schema) (size budget : ℕ) (p : PlainProgram) (r : Proven) (plan : Plan) → IsProven may tables size budget p r →
    plan ≡ plan_with r.bundle (flat_map verdict_line r.verdicts ++ pruned_line r.dropped) → Proves may tables size budget p plan
proves_by may tables size budget p r plan is due =
    record {
      pruned = r.dropped;
      evidence = is.evidence;
      written = due
          ∙ ap (λ (text : List ℕ). plan_with text (flat_map verdict_line r.verdicts ++ pruned_line r.dropped)) is.bundle
          ∙ ap (λ (vs : List LoopVerdict). plan_with (bundle_text (entries_for tables size budget p)) (flat_map verdict_line vs ++ pruned_line r.dropped)) is.verdicts;
    }

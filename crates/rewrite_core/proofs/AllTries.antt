-- What comes of all tries of a program's loops.
use Rattle.std.proofs.Common.{◌≡◌, ℕ, Bool, ◌+◌, List, Result, Ok, Err, IfOk, sym, ap, ◌∙◌, subst, arith}
use Rattle.qbs_base.specs.Values.{Schema}
use Rattle.deriv_check.specs.declared.bundle.BundleEntry.{BundleEntry}
use Rattle.deriv_check.specs.Bundles.{entries_of}
use Rattle.kernel_lang.specs.Plain.{Fragment}
use Rattle.java_ast.specs.declared.tree.Program.{Program}
use Rattle.java_ast.specs.Reading.{program as plain_program}
use Rattle.java_ast.specs.Tree.{PlainProgram}
use Rattle.java_mean.specs.Keeps.{Keeps}
use Rattle.java_mean.specs.WellTyped.{IsWellTyped}
use Rattle.java_grammar.specs.InGrammar.{IsInGrammar}
use Rattle.java_grammar.specs.ReadBack.{IsReadBack}
use Rattle.java_grammar.specs.Written.{IsWritten}
use Rattle.java_types.specs.Texts.{read_by}
use Rattle.java_stretches.specs.Patches.{plain_patches, with_patches}
use Rattle.verdicts.specs.declared.verdict.LoopVerdict.{LoopVerdict}
use Rattle.rewrite_core.specs.declared.progress.AllTried.{AllTried}
use Rattle.rewrite_core.specs.declared.rewritten.Rewritten.{Rewritten}
use Rattle.rewrite_core.specs.Output.{IsSourceOf}
use Rattle.rewrite_core.specs.Patches.{patched_text}
use Rattle.rewrite_core.specs.Progress.{starts_at, ends_with, Leads}
use Rattle.rewrite_core.specs.Pruned.{ArePruned}
use Rattle.rewrite_core.specs.Results.{IsReplacementOf, IsRewritingOf}
use Rattle.rewrite_core.specs.Rewriting.{verdicts_of, StandAsTried}
use Rattle.rewrite_core.specs.Trying.{all_tried, rewritten}
use Rattle.rewrite_core.proofs.PatchedTexts.{patched_back}
use Rattle.rewrite_core.proofs.Turns.{rewritten_keeps, rewritten_typed, rewritten_follows}
use Rattle.rewrite_core.proofs.Untried.{standing_tried, standing_in_place}

-- ---- All tries

module _ (D K : Fragment → List ℕ → Type 0) (schema : Schema) (size budget : ℕ) (source : List ℕ) (p : PlainProgram) (keep : Bool) (all : AllTried) (h : (n : ℕ) × Leads D K schema size source (all_tried schema size budget p) (starts_at p keep) (ends_with all n)) where
  -- ---- Without text

  left_exact : plain_program all.program ≡ rewritten schema size budget p
  left_exact = h.1.program

  left_said : all.verdicts ≡ verdicts_of (all_tried schema size budget p)
  left_said = h.1.verdicts

  left_typed : IsWellTyped schema (read_by schema) p → IsWellTyped schema (read_by schema) (plain_program all.program)
  left_typed typed = subst (IsWellTyped schema (read_by schema)) (sym h.1.program) (rewritten_typed schema size budget p h.1.asked typed)

  left_kept : Keeps p (plain_program all.program) schema
  left_kept = subst (λ (q : PlainProgram). Keeps p q schema) (sym h.1.program) (rewritten_keeps schema size budget p h.1.asked)

  left_stand : StandAsTried (all_tried schema size budget p) (plain_program all.program)
  left_stand =
      subst (StandAsTried (all_tried schema size budget p)) (sym h.1.program)
      (record { paths = standing_tried schema size budget p h.1.asked; places = standing_in_place schema size budget p h.1.asked })

  pub all_replaced : (verdicts : List LoopVerdict) (q : Program) → q ≡ all.program → verdicts ≡ all.verdicts → IsWellTyped schema (read_by schema) p → IsReplacementOf schema size budget p (record { program = q; verdicts = verdicts })
  all_replaced verdicts q same said typed =
      let of : (P : PlainProgram → Type 0) → P (plain_program all.program) → P (plain_program q) = λ P h. subst (λ (x : Program). P (plain_program x)) (sym same) h in
      record {
        exact = ap plain_program same ∙ left_exact;
        verdicts = said ∙ left_said;
        typed = of (IsWellTyped schema (read_by schema)) (left_typed typed);
        keeps = of (λ (x : PlainProgram). Keeps p x schema) left_kept;
        standing = of (StandAsTried (all_tried schema size budget p)) left_stand;
      }

  -- ---- With it

  count : ArePruned D K size (all_tried schema size budget p) all.dropped
  count =
      let sum : all.dropped ≡ 0 + h.1.pruned = h.1.dropped in
      let same : all.dropped ≡ h.1.pruned = omega arith in
      subst (ArePruned D K size (all_tried schema size budget p)) (sym same) h.1.counted

  module _ (r : Rewritten) (same : r.program ≡ all.program) (said : r.verdicts ≡ all.verdicts) (entered : r.bundle ≡ all.bundle) (counted : r.dropped ≡ all.dropped) (laid : r.patches ≡ all.patches) (out : r.text ≡ with_patches source 0 (plain_patches all.patches)) where
    of : (P : PlainProgram → Type 0) → P (rewritten schema size budget p) → P (plain_program r.program)
    of P k = subst P (sym (ap plain_program same ∙ left_exact)) k

    written_out : r.text ≡ patched_text source (all_tried schema size budget p)
    written_out = out ∙ ap (with_patches source 0) h.1.patches

    pub all_rewritten : IsWellTyped schema (read_by schema) p → IsSourceOf source p → IsRewritingOf D K schema size budget source p r
    all_rewritten typed src =
        record {
          exact = ap plain_program same ∙ left_exact;
          verdicts = said ∙ left_said;
          bundle = ap (λ (b : List BundleEntry). entries_of b) entered ∙ h.1.entries;
          dropped = subst (ArePruned D K size (all_tried schema size budget p)) (sym counted) count;
          typed = of (IsWellTyped schema (read_by schema)) (rewritten_typed schema size budget p h.1.asked typed);
          keeps = of (λ (q : PlainProgram). Keeps p q schema) (rewritten_keeps schema size budget p h.1.asked);
          written =
              of (λ (q : PlainProgram). IsInGrammar p → IsWritten p → IsInGrammar q × IsWritten q)
              (λ grammar writes. (rewritten_follows schema size budget p h.1.asked).written (grammar, writes));
          standing =
              of (StandAsTried (all_tried schema size budget p))
              (record { paths = standing_tried schema size budget p h.1.asked; places = standing_in_place schema size budget p h.1.asked });
          patches = ap plain_patches laid ∙ h.1.patches;
          text = written_out;
          read_back =
              of (IsReadBack r.text)
              (subst (λ (text : List ℕ). IsReadBack text (rewritten schema size budget p)) (sym written_out) (patched_back schema size budget source p src h.1.asked));
        }

module _ (D K : Fragment → List ℕ → Type 0) (schema : Schema) (size budget : ℕ) (source : List ℕ) (p : PlainProgram) (keep : Bool) (all : AllTried) (h : (n : ℕ) × Leads D K schema size source (all_tried schema size budget p) (starts_at p keep) (ends_with all n)) where
  pub comes_of_all : {X : Type 0} (o : Result Rewritten X) → IfOk o (λ r. r.program ≡ all.program) → IfOk o (λ r. r.verdicts ≡ all.verdicts) → IfOk o (λ r. r.bundle ≡ all.bundle) → IfOk o (λ r. r.dropped ≡ all.dropped)
      → IfOk o (λ r. r.patches ≡ all.patches) → IfOk o (λ r. r.text ≡ with_patches source 0 (plain_patches all.patches)) → IsWellTyped schema (read_by schema) p → IsSourceOf source p → IfOk o (IsRewritingOf D K schema size budget source p)
  comes_of_all (Ok r) same said entered counted laid out typed src = all_rewritten D K schema size budget source p keep all h r same said entered counted laid out typed src
  comes_of_all (Err x) same said entered counted laid out typed src = tt

-- What comes of a well-typed program whose loops were tried.
use Rattle.std.specs.Prelude.{◌≡◌, ℕ, true, List, [], map}
use Rattle.std.specs.List.{AllByRecursion}
use Rattle.qbs_base.specs.Values.{Schema}
use Rattle.deriv_check.specs.Bundles.{entries_of}
use Rattle.kernel_lang.specs.Plain.{Fragment}
use Rattle.kernel_lang.specs.Typed.{is_typed}
use Rattle.kernel_lang.specs.Whole.{fragment_of}
use Rattle.java_ast.specs.Reading.{program as plain_program}
use Rattle.java_ast.specs.Tree.{PlainProgram}
use Rattle.java_grammar.specs.InGrammar.{IsInGrammar}
use Rattle.java_grammar.specs.ReadBack.{IsReadBack}
use Rattle.java_grammar.specs.Written.{IsWritten}
use Rattle.java_mean.specs.Keeps.{Keeps}
use Rattle.java_mean.specs.WellTyped.{IsWellTyped}
use Rattle.java_stretches.specs.Patches.{plain_patches}
use Rattle.java_types.specs.Texts.{read_by}
use Rattle.rewrite_core.specs.declared.replaced.Replaced.{Replaced}
use Rattle.rewrite_core.specs.declared.rewritten.Rewritten.{Rewritten}
use Rattle.rewrite_core.specs.declared.searches.Searching.{Searching}
use Rattle.rewrite_core.specs.declared.unnesting.Unnesting.{Unnesting}
use Rattle.rewrite_core.specs.Patches.{patches_left, patched_text}
use Rattle.rewrite_core.specs.Pruned.{ArePruned}
use Rattle.rewrite_core.specs.Rewriting.{verdicts_of, bundle_of, StandAsTried}
use Rattle.rewrite_core.specs.Searches.{plain_search, searches_of}
use Rattle.rewrite_core.specs.Trying.{all_tried, rewritten}
use Rattle.rewrite_core.specs.Unnesting.{all_unnested, unnested}

-- of a program that has no text
pub record IsReplacementOf (schema : Schema) (size budget : ℕ) (p : PlainProgram) (r : Replaced) : Type 0 where
  pub exact : plain_program r.program ≡ rewritten schema size budget p
  pub verdicts : r.verdicts ≡ verdicts_of (all_tried schema size budget p)
  pub typed : IsWellTyped schema (read_by schema) (plain_program r.program)
  pub keeps : Keeps p (plain_program r.program) schema
  pub standing : StandAsTried (all_tried schema size budget p) (plain_program r.program)

-- of one that was read from a source, where each candidate that was dropped may be, and each other one may be kept
pub record IsRewritingOf (may_drop may_keep : Fragment → List ℕ → Type 0) (schema : Schema) (size budget : ℕ) (source : List ℕ) (p : PlainProgram) (r : Rewritten) : Type 0 where
  pub exact : plain_program r.program ≡ rewritten schema size budget p
  pub verdicts : r.verdicts ≡ verdicts_of (all_tried schema size budget p)
  pub bundle : entries_of r.bundle ≡ bundle_of (all_tried schema size budget p)
  pub dropped : ArePruned may_drop may_keep size (all_tried schema size budget p) r.dropped
  pub typed : IsWellTyped schema (read_by schema) (plain_program r.program)
  pub keeps : Keeps p (plain_program r.program) schema
  pub written : IsInGrammar p → IsWritten p → IsInGrammar (plain_program r.program) × IsWritten (plain_program r.program)
  pub standing : StandAsTried (all_tried schema size budget p) (plain_program r.program)
  pub patches : plain_patches r.patches ≡ patches_left source [] (all_tried schema size budget p)
  pub text : r.text ≡ patched_text source (all_tried schema size budget p)
  pub read_back : IsReadBack r.text (plain_program r.program)

-- of one that was read from a source, whose loops were unnested
pub record IsUnnestingOf (schema : Schema) (size budget : ℕ) (source : List ℕ) (p : PlainProgram) (r : Unnesting) : Type 0 where
  pub exact : plain_program r.program ≡ unnested schema size budget p
  pub verdicts : r.verdicts ≡ verdicts_of (all_unnested schema size budget p)
  pub typed : IsWellTyped schema (read_by schema) (plain_program r.program)
  pub keeps : Keeps p (plain_program r.program) schema
  pub written : IsInGrammar p → IsWritten p → IsInGrammar (plain_program r.program) × IsWritten (plain_program r.program)
  pub patches : plain_patches r.patches ≡ patches_left source [] (all_unnested schema size budget p)
  pub text : r.text ≡ patched_text source (all_unnested schema size budget p)
  pub read_back : IsReadBack r.text (plain_program r.program)

-- what was searched of one whose loops were tried; each fragment fits the schema
pub record IsSearchingOf (schema : Schema) (size budget : ℕ) (p : PlainProgram) (r : Searching) : Type 0 where
  pub verdicts : r.verdicts ≡ verdicts_of (all_tried schema size budget p)
  pub searches : map plain_search r.searches ≡ searches_of (all_tried schema size budget p)
  pub fit : AllByRecursion (λ s. is_typed schema (fragment_of s.frag.value) ≡ true) r.searches

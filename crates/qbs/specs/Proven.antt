-- The plain form of what the code proves of a program.
use Rattle.std.specs.Prelude.{◌≡◌, ℕ}
use Rattle.qbs_base.specs.Values.{Schema}
use Rattle.java_ast.specs.Tree.{PlainProgram}
use Rattle.deriv_check.specs.Texts.{bundle_text}
use Rattle.rewrite_core.specs.Rewriting.{verdicts_of}
use Rattle.rewrite_core.specs.Trying.{all_tried}
use Rattle.qbs.specs.declared.prove.Proven.{Proven}
use Rattle.qbs.specs.Prove.{entries_for, HasEvidence}
use Rattle.qbs.specs.Pruners.{May}

-- the text of the entries of its loops that give way, and what is said of each loop that was tried
pub record IsProven (may : May) (tables : Schema) (size budget : ℕ) (p : PlainProgram) (r : Proven) : Type 0 where
  pub evidence : HasEvidence may tables size budget p r.dropped
  pub bundle : r.bundle ≡ bundle_text (entries_for tables size budget p)
  pub verdicts : r.verdicts ≡ verdicts_of (all_tried tables size budget p)

-- Lines in the order in which they are written.
use Rattle.std.proofs.Common.{◌≡◌, ℕ, List, ◌++◌, codes, append_assoc}
use Rattle.std.specs.Fmt.{decimal}
use Rattle.qbs_base.specs.declared.span.Span.{Span}
use Rattle.deriv_check.specs.declared.fault.BundleFault.{BundleFault}
use Rattle.verdicts.specs.Lines.{line}
use Rattle.plans.specs.Lines.{bundle_fault_text, rule_text, row_text}

pub rule_lined : (text : List ℕ) (number : ℕ) (name : List ℕ) (at : Span) →
    text ++ (decimal number ++ (codes " " ++ (name ++ (codes " at " ++ (decimal at.line ++ (codes ":" ++ (decimal at.column ++ codes "\n")))))))
    ≡ line (text ++ rule_text number name at)
rule_lined text number name at = simp append_assoc

pub row_lined : (table : List ℕ) (number : ℕ) (name : List ℕ) (row : ℕ) →
    codes "qbs: data: " ++ (table ++ (codes ": " ++ (decimal number ++ (codes " " ++ (name ++ (codes " at row " ++ (decimal row ++ codes "\n")))))))
    ≡ line (row_text table number name row)
row_lined table number name row = simp append_assoc

pub offset_lined : (fault : BundleFault) → codes "qbs: bundle: at " ++ (decimal fault.offset ++ codes "\n") ≡ line (bundle_fault_text fault)
offset_lined fault = simp append_assoc

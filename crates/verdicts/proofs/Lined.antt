-- Lines in the order in which they are written.
use Rattle.std.proofs.Common.{◌≡◌, ℕ, List, ◌++◌, codes, append_assoc, refl, ap, ◌∙◌}
use Rattle.std.specs.Fmt.{decimal}
use Rattle.qbs_base.specs.declared.span.Span.{Span}
use Rattle.verdicts.specs.declared.verdict.LoopVerdict.{LoopVerdict}
use Rattle.verdicts.specs.declared.verdict.Said.TheVariants as says
use Rattle.verdicts.specs.Lines.{line, place_text}
use Rattle.verdicts.specs.Reports.{said_text, verdict_line, pruned_line, unnested_line}

pub place_lined : (at : Span) → decimal at.line ++ (codes ":" ++ decimal at.column) ≡ place_text at
place_lined at = simp append_assoc

pub found_lined : (k : ℕ) → codes "found " ++ decimal k ≡ said_text (says.Found k)
found_lined k = refl

pub none_lined : (n : ℕ) → codes "none of " ++ decimal n ≡ said_text (says.NoneOf n)
none_lined n = refl

pub budget_lined : (b n : ℕ) → codes "budget " ++ (decimal b ++ (codes " of " ++ decimal n)) ≡ said_text (says.Budget b n)
budget_lined b n = simp append_assoc

outside_joined : (rule : ℕ) (place : List ℕ) → codes "outside K" ++ (decimal rule ++ (codes " at " ++ place)) ≡ codes "outside K" ++ decimal rule ++ codes " at " ++ place
outside_joined rule place = simp append_assoc

pub outside_lined : (rule : ℕ) (at : Span) (place : List ℕ) → place ≡ place_text at → codes "outside K" ++ (decimal rule ++ (codes " at " ++ place)) ≡ said_text (says.Outside rule at)
outside_lined rule at place is = outside_joined rule place ∙ ap (λ (text : List ℕ). codes "outside K" ++ decimal rule ++ codes " at " ++ text) is

verdict_joined : (place said : List ℕ) → codes "loop " ++ (place ++ (codes " " ++ (said ++ codes "\n"))) ≡ line (codes "loop " ++ place ++ codes " " ++ said)
verdict_joined place said = simp append_assoc

pub verdict_lined : (v : LoopVerdict) (place said : List ℕ) → place ≡ place_text v.at → said ≡ said_text v.said → codes "loop " ++ (place ++ (codes " " ++ (said ++ codes "\n"))) ≡ verdict_line v
verdict_lined v place said is kept =
    verdict_joined place said
    ∙ ap (λ (text : List ℕ). line (codes "loop " ++ text ++ codes " " ++ said)) is
    ∙ ap (λ (text : List ℕ). line (codes "loop " ++ place_text v.at ++ codes " " ++ text)) kept

pub pruned_lined : (n : ℕ) → codes "pruned " ++ (decimal n ++ codes "\n") ≡ pruned_line n
pruned_lined n = simp append_assoc

pub unnested_lined : (n : ℕ) → codes "unnested " ++ (decimal n ++ codes "\n") ≡ unnested_line n
unnested_lined n = simp append_assoc

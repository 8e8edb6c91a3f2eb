-- Lines in the order in which they are written, and what is counted.
use Rattle.std.proofs.Common.{◌≡◌, ℕ, ◌+◌, List, ◌++◌, codes, append_assoc, ap, ◌∙◌}
use Rattle.std.specs.Fmt.{decimal}
use Rattle.qbs_base.specs.declared.span.Span.{Span}
use Rattle.verdicts.specs.Lines.{line, place_text}
use Rattle.narrowing.specs.declared.walk.Walk.{Walk}
use Rattle.narrowing.specs.Reports.{said_text, walk_line}

pub place_lined : (at : Span) → decimal at.line ++ (codes ":" ++ decimal at.column) ≡ place_text at
place_lined at = simp append_assoc

walk_joined : (place said : List ℕ) → codes "loop " ++ (place ++ (codes " " ++ (said ++ codes "\n"))) ≡ line (codes "loop " ++ place ++ codes " " ++ said)
walk_joined place said = simp append_assoc

pub walk_lined : (w : Walk) (place said : List ℕ) → place ≡ place_text w.at → said ≡ said_text w.stays → codes "loop " ++ (place ++ (codes " " ++ (said ++ codes "\n"))) ≡ walk_line w
walk_lined w place said is kept =
    walk_joined place said
    ∙ ap (λ (text : List ℕ). line (codes "loop " ++ text ++ codes " " ++ said)) is
    ∙ ap (λ (text : List ℕ). line (codes "loop " ++ place_text w.at ++ codes " " ++ text)) kept

pub count_lined : (n : ℕ) → codes "narrowed " ++ (decimal n ++ codes "\n") ≡ line (codes "narrowed " ++ decimal n)
count_lined n = simp append_assoc

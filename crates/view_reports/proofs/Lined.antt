-- Lines in the order in which they are written.
use Rattle.std.proofs.Common.{◌≡◌, ℕ, List, ◌++◌, codes, append_assoc, ap, ◌∙◌}
use Rattle.std.specs.Fmt.{decimal}
use Rattle.qbs_base.specs.declared.span.Span.{Span}
use Rattle.verdicts.specs.Lines.{line, place_text}
use Rattle.view_reports.specs.declared.lines.ViewLine.TheVariants as lines
use Rattle.view_reports.specs.Lines.{view_line}

pub place_lined : (at : Span) → decimal at.line ++ (codes ":" ++ decimal at.column) ≡ place_text at
place_lined at = simp append_assoc

slice_joined : (k : ℕ) (place : List ℕ) → codes "slice " ++ (decimal k ++ (codes " " ++ (place ++ codes "\n"))) ≡ line (codes "slice " ++ decimal k ++ codes " " ++ place)
slice_joined k place = simp append_assoc

pub slice_lined : (k : ℕ) (at : Span) (place : List ℕ) → place ≡ place_text at → codes "slice " ++ (decimal k ++ (codes " " ++ (place ++ codes "\n"))) ≡ view_line (lines.Slice k at)
slice_lined k at place is = slice_joined k place ∙ ap (λ (text : List ℕ). line (codes "slice " ++ decimal k ++ codes " " ++ text)) is

unseen_joined : (loop : List ℕ) (rule : ℕ) (cause : List ℕ) →
    codes "loop " ++ (loop ++ (codes " unseen V" ++ (decimal rule ++ (codes " at " ++ (cause ++ codes "\n"))))) ≡ line (codes "loop " ++ loop ++ codes " unseen V" ++ decimal rule ++ codes " at " ++ cause)
unseen_joined loop rule cause = simp append_assoc

pub unseen_lined : (at : Span) (rule : ℕ) (because : Span) (loop cause : List ℕ) → loop ≡ place_text at → cause ≡ place_text because →
    codes "loop " ++ (loop ++ (codes " unseen V" ++ (decimal rule ++ (codes " at " ++ (cause ++ codes "\n"))))) ≡ view_line (lines.Unseen at rule because)
unseen_lined at rule because loop cause is of =
    unseen_joined loop rule cause
    ∙ ap (λ (text : List ℕ). line (codes "loop " ++ text ++ codes " unseen V" ++ decimal rule ++ codes " at " ++ cause)) is
    ∙ ap (λ (text : List ℕ). line (codes "loop " ++ place_text at ++ codes " unseen V" ++ decimal rule ++ codes " at " ++ text)) of

shared_joined : (place : List ℕ) → codes "loop " ++ (place ++ codes " shared\n") ≡ line (codes "loop " ++ place ++ codes " shared")
shared_joined place = simp append_assoc

pub shared_lined : (at : Span) (place : List ℕ) → place ≡ place_text at → codes "loop " ++ (place ++ codes " shared\n") ≡ view_line (lines.Shared at)
shared_lined at place is = shared_joined place ∙ ap (λ (text : List ℕ). line (codes "loop " ++ text ++ codes " shared")) is

unlike_joined : (place : List ℕ) → codes "loop " ++ (place ++ codes " unlike\n") ≡ line (codes "loop " ++ place ++ codes " unlike")
unlike_joined place = simp append_assoc

pub unlike_lined : (at : Span) (place : List ℕ) → place ≡ place_text at → codes "loop " ++ (place ++ codes " unlike\n") ≡ view_line (lines.Unlike at)
unlike_lined at place is = unlike_joined place ∙ ap (λ (text : List ℕ). line (codes "loop " ++ text ++ codes " unlike")) is

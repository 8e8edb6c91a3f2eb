-- One stretch more.
use Rattle.std.proofs.Common.{◌≡◌, ℕ, suc, ◌+◌, ◌-◌, ◌<◌, List, [], ◌∷◌, ◌++◌, length, get_or, drop, sym, ap, ◌∙◌, append_assoc, add-one, drop-cons, arith, length-append}
use Rattle.view_items.specs.declared.cell.Cell.{Cell}
use Rattle.view_text.specs.declared.before.Before.{Before}
use Rattle.view_text.specs.declared.stretches.Stretch.{Stretch}
use Rattle.view_text.specs.Layout.{gap, behind, stretches_from}

abbrev pub stretch : ℕ → ℕ → Stretch
stretch from to = record { from = from; to = to }

pub next_stretch : (cells : List Cell) (i : ℕ) (c : Cell) (before b : Before) (done new all : List Stretch) (out longer : List ℕ) (from to : ℕ)
    → i < length cells → c ≡ get_or cells i c → b ≡ behind before c.bytes → longer ≡ out ++ (gap before c.bytes ++ c.bytes) → to ≡ length longer → from ≡ to - length c.bytes
    → new ≡ done ++ stretch from to ∷ [] → done ++ stretches_from before (length out) (drop i cells) ≡ all
    → new ++ stretches_from b (length longer) (drop (i + 1) cells) ≡ all
next_stretch cells i c before b done new all out longer from to less is_cell is_behind is_longer is_to is_from is_new so_far =
    let long : length longer ≡ length out + length (gap before c.bytes) + length c.bytes =
    omega (arith, ap length is_longer, length-append out (gap before c.bytes ++ c.bytes), length-append (gap before c.bytes) c.bytes) in
    let starts : from ≡ length out + length (gap before c.bytes) = omega (arith, is_from, is_to, long) in
    let ends : to ≡ length out + length (gap before c.bytes) + length c.bytes = is_to ∙ long in
    let cells_are : drop i cells ≡ c ∷ drop (suc i) cells = drop-cons cells i c less ∙ ap (λ (d : Cell). d ∷ drop (suc i) cells) (sym is_cell) in
    let rest : List Stretch = stretches_from (behind before c.bytes) (length out + length (gap before c.bytes) + length c.bytes) (drop (suc i) cells) in
    rw (is_new, add-one, is_behind, long, starts, ends)
    (append_assoc done (stretch (length out + length (gap before c.bytes)) (length out + length (gap before c.bytes) + length c.bytes) ∷ []) rest
    ∙ (ap (λ (cs : List Cell). done ++ stretches_from before (length out) cs) (sym cells_are) ∙ so_far))

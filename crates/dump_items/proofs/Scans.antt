-- A tag that is looked for.
use Rattle.std.proofs.Common.{◌≡◌, refl, ℕ, ◌+◌, ◌-◌, ◌≤◌, false, List, [], ◌∷◌, length, take, drop, sym, ap, ◌∙◌, arith, ◌==◌}
use Rattle.std.proofs.lemmas.List.{take_rest, length-drop}
use Rattle.std.specs.List.{starts_with}
use Rattle.dump_items.specs.Scan.{tag_end}

pub goes_on : (tag bs : List ℕ) (n total : ℕ) → 1 ≤ length bs → starts_with (λ x y. x == y) bs tag ≡ false → n + tag_end tag bs ≡ total
    → n + 1 + tag_end tag (take (length bs - 1) (drop 1 bs)) ≡ total
unfolding tag_end
goes_on tag [] n total lt e so_far = absurd (omega arith)
goes_on tag (b ∷ bs) n total lt e so_far =
    let go : tag_end tag (b ∷ bs) ≡ 1 + tag_end tag bs = rw e refl in
    let s : n + (1 + tag_end tag bs) ≡ total = ap (λ (m : ℕ). n + m) (sym go) ∙ so_far in
    rw (take_rest (b ∷ bs) 1) (omega (arith, s))

pub left_on : (bs : List ℕ) (n total : ℕ) → 1 ≤ length bs → n + length bs ≡ total → n + 1 + length (take (length bs - 1) (drop 1 bs)) ≡ total
left_on bs n total lt so_far = rw (take_rest bs 1, length-drop 1 bs) (omega (arith, lt, so_far))

-- One `return` at numbers one after the other.
use Rattle.std.proofs.Common.{◌≡◌, ℕ, ◌+◌, ◌-◌, ◌<◌, ◌≤◌, Bool, true, false, not, List, refl, sym, ◌∙◌}
use Rattle.view_items.specs.declared.item.Item.{Item}
use Rattle.view_shapes.specs.Mentions.{numbers}
use Rattle.view_shapes.proofs.Numbers.{numbers_more, numbers_none}
use Rattle.view_slices.specs.Slices.{once, is_return, has_return}

pub once_here : (items : List Item) (k to : ℕ) (t : Bool) → once items (numbers k (to - k)) ≡ t → k < to → is_return items k ≡ true
    → not (has_return items (numbers (k + 1) (to - (k + 1)))) ≡ t
unfolding once
once_here items k to t so_far lt here =
    let h : once items (numbers k (to - k)) ≡ not (has_return items (numbers (k + 1) (to - (k + 1)))) = rw (numbers_more k to lt, here) refl in
    sym h ∙ so_far

pub once_next : (items : List Item) (k to : ℕ) (t : Bool) → once items (numbers k (to - k)) ≡ t → k < to → is_return items k ≡ false
    → once items (numbers (k + 1) (to - (k + 1))) ≡ t
unfolding once
once_next items k to t so_far lt other =
    let h : once items (numbers k (to - k)) ≡ once items (numbers (k + 1) (to - (k + 1))) = rw (numbers_more k to lt, other) refl in
    sym h ∙ so_far

pub once_end : (items : List Item) (k to : ℕ) (t : Bool) → once items (numbers k (to - k)) ≡ t → to ≤ k → false ≡ t
unfolding once
once_end items k to t so_far le =
    let h : once items (numbers k (to - k)) ≡ false = rw (numbers_none k to le) refl in
    sym h ∙ so_far

-- One step more of the front of a pattern, and of a template.
use Rattle.std.proofs.Common.{◌≡◌, ℕ, suc, ◌+◌, ◌-◌, ◌<◌, ◌≤◌, true, false, List, slice_get, Option, refl, sym, ap, ◌∙◌, arith, if◌then◌else◌}
use Rattle.view_map.specs.declared.model.PatternItem.{PatternItem}
use Rattle.view_map.specs.declared.model.Part.{Part}
use Rattle.view_scope.specs.Patterns.{ends_front, front_in, open_behind, item_of}

abbrev after_front_in : ℕ → (ℕ → Option PatternItem) → ℕ → ℕ → ℕ
after_front_in depth at k n = if ends_front depth (at k) then k + 1 else front_in n (open_behind depth (at k)) at (k + 1)

front_in_step : (depth : ℕ) (at : ℕ → Option PatternItem) (k : ℕ) (n : ℕ) → 0 < n → front_in n depth at k ≡ after_front_in depth at k (n - 1)
unfolding front_in
front_in_step depth at k n lt = let e : n ≡ suc (n - 1) = omega (arith, lt) in ap (λ (m : ℕ). front_in m depth at k) e

over : (depth : ℕ) (at : ℕ → Option PatternItem) (k : ℕ) (n : ℕ) (t : ℕ) → front_in n depth at k ≡ t → 0 < n → true ≡ ends_front depth (at k) → k + 1 ≡ t
over depth at k n t so_far lt a =
    let h : after_front_in depth at k (n - 1) ≡ k + 1 = rw (sym a) refl in
    sym h ∙ sym (front_in_step depth at k n lt) ∙ so_far

next : (depth : ℕ) (at : ℕ → Option PatternItem) (k : ℕ) (n : ℕ) (t : ℕ) → front_in n depth at k ≡ t → 0 < n → false ≡ ends_front depth (at k) → front_in (n - 1) (open_behind depth (at k)) at (k + 1) ≡ t
next depth at k n t so_far lt a =
    let h : after_front_in depth at k (n - 1) ≡ front_in (n - 1) (open_behind depth (at k)) at (k + 1) = rw (sym a) refl in
    sym h ∙ sym (front_in_step depth at k n lt) ∙ so_far

end : (depth : ℕ) (at : ℕ → Option PatternItem) (k : ℕ) (n : ℕ) (t : ℕ) → front_in n depth at k ≡ t → n ≤ 0 → k ≡ t
unfolding front_in
end depth at k n t so_far le =
    let e : n ≡ 0 = omega (arith, le) in
    let h : front_in n depth at k ≡ k = rw e refl in
    sym h ∙ so_far

-- ---- Patterns

pub front_in_over : (depth : ℕ) (is : List PatternItem) (k : ℕ) (n : ℕ) (t : ℕ) → front_in n depth (slice_get is) k ≡ t → 0 < n → true ≡ ends_front depth (slice_get is k) → k + 1 ≡ t
front_in_over depth is k n t so_far lt a = over depth (slice_get is) k n t so_far lt a

pub front_in_next : (depth : ℕ) (is : List PatternItem) (k : ℕ) (n : ℕ) (t : ℕ) → front_in n depth (slice_get is) k ≡ t → 0 < n → false ≡ ends_front depth (slice_get is k) → front_in (n - 1) (open_behind depth (slice_get is k)) (slice_get is) (k + 1) ≡ t
front_in_next depth is k n t so_far lt a = next depth (slice_get is) k n t so_far lt a

pub front_in_end : (depth : ℕ) (is : List PatternItem) (k : ℕ) (n : ℕ) (t : ℕ) → front_in n depth (slice_get is) k ≡ t → n ≤ 0 → k ≡ t
front_in_end depth is k n t so_far le = end depth (slice_get is) k n t so_far le

-- ---- Templates

pub part_front_over : (depth : ℕ) (ps : List Part) (k : ℕ) (n : ℕ) (t : ℕ) → front_in n depth (item_of ps) k ≡ t → 0 < n → true ≡ ends_front depth (item_of ps k) → k + 1 ≡ t
part_front_over depth ps k n t so_far lt a = over depth (item_of ps) k n t so_far lt a

pub part_front_next : (depth : ℕ) (ps : List Part) (k : ℕ) (n : ℕ) (t : ℕ) → front_in n depth (item_of ps) k ≡ t → 0 < n → false ≡ ends_front depth (item_of ps k) → front_in (n - 1) (open_behind depth (item_of ps k)) (item_of ps) (k + 1) ≡ t
part_front_next depth ps k n t so_far lt a = next depth (item_of ps) k n t so_far lt a

pub part_front_end : (depth : ℕ) (ps : List Part) (k : ℕ) (n : ℕ) (t : ℕ) → front_in n depth (item_of ps) k ≡ t → n ≤ 0 → k ≡ t
part_front_end depth ps k n t so_far le = end depth (item_of ps) k n t so_far le

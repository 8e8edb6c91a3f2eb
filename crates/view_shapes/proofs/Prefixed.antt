-- One annotation or modifier more.
use Rattle.std.proofs.Common.{◌≡◌, ℕ, suc, ◌+◌, ◌-◌, ◌<◌, ◌≤◌, Bool, true, false, List, codes, Option, Some, None, refl, sym, ap, ◌∙◌, arith, if◌then◌else◌}
use Rattle.view_items.specs.declared.item.Item.{Item}
use Rattle.view_items.specs.Brackets.{if_some}
use Rattle.view_shapes.specs.Found.{is_sign, is_one_of_words}
use Rattle.view_shapes.specs.Prefixes.{annotation_end, prefix_end}

abbrev after_prefix_end : List (List ℕ) → List Item → List ℕ → ℕ → ℕ → Option ℕ
after_prefix_end ms items cs k n = if is_sign (codes "@") items k then if_some (annotation_end items cs k) (prefix_end ms n items cs) else (if is_one_of_words ms items k then prefix_end ms n items cs (k + 1) else Some k)

prefix_end_step : (ms : List (List ℕ)) (items : List Item) (cs : List ℕ) (k : ℕ) (n : ℕ) → 0 < n → prefix_end ms n items cs k ≡ after_prefix_end ms items cs k (n - 1)
unfolding prefix_end
prefix_end_step ms items cs k n lt = let e : n ≡ suc (n - 1) = omega (arith, lt) in ap (λ (m : ℕ). prefix_end ms m items cs k) e

pub prefix_end_stuck : (ms : List (List ℕ)) (items : List Item) (cs : List ℕ) (k : ℕ) (n : ℕ) (t : Option ℕ) → prefix_end ms n items cs k ≡ t → 0 < n → true ≡ is_sign (codes "@") items k → None ≡ annotation_end items cs k → None ≡ t
prefix_end_stuck ms items cs k n t so_far lt a b =
    let h : after_prefix_end ms items cs k (n - 1) ≡ None = rw (sym a, sym b) refl in
    sym h ∙ sym (prefix_end_step ms items cs k n lt) ∙ so_far

pub prefix_end_past : (ms : List (List ℕ)) (items : List Item) (cs : List ℕ) (k : ℕ) (n : ℕ) (m : ℕ) (t : Option ℕ) → prefix_end ms n items cs k ≡ t → 0 < n → true ≡ is_sign (codes "@") items k → Some m ≡ annotation_end items cs k → prefix_end ms (n - 1) items cs m ≡ t
prefix_end_past ms items cs k n m t so_far lt a b =
    let h : after_prefix_end ms items cs k (n - 1) ≡ prefix_end ms (n - 1) items cs m = rw (sym a, sym b) refl in
    sym h ∙ sym (prefix_end_step ms items cs k n lt) ∙ so_far

pub prefix_end_next : (ms : List (List ℕ)) (items : List Item) (cs : List ℕ) (k : ℕ) (n : ℕ) (t : Option ℕ) → prefix_end ms n items cs k ≡ t → 0 < n → false ≡ is_sign (codes "@") items k → true ≡ is_one_of_words ms items k → prefix_end ms (n - 1) items cs (k + 1) ≡ t
prefix_end_next ms items cs k n t so_far lt a b =
    let h : after_prefix_end ms items cs k (n - 1) ≡ prefix_end ms (n - 1) items cs (k + 1) = rw (sym a, sym b) refl in
    sym h ∙ sym (prefix_end_step ms items cs k n lt) ∙ so_far

pub prefix_end_over : (ms : List (List ℕ)) (items : List Item) (cs : List ℕ) (k : ℕ) (n : ℕ) (t : Option ℕ) → prefix_end ms n items cs k ≡ t → 0 < n → false ≡ is_sign (codes "@") items k → false ≡ is_one_of_words ms items k → Some k ≡ t
prefix_end_over ms items cs k n t so_far lt a b =
    let h : after_prefix_end ms items cs k (n - 1) ≡ Some k = rw (sym a, sym b) refl in
    sym h ∙ sym (prefix_end_step ms items cs k n lt) ∙ so_far

pub prefix_end_end : (ms : List (List ℕ)) (items : List Item) (cs : List ℕ) (k : ℕ) (n : ℕ) (t : Option ℕ) → prefix_end ms n items cs k ≡ t → n ≤ 0 → None ≡ t
unfolding prefix_end
prefix_end_end ms items cs k n t so_far le =
    let e : n ≡ 0 = omega (arith, le) in
    let h : prefix_end ms n items cs k ≡ None = rw e refl in
    sym h ∙ so_far

-- One step more of what is sought.
use Rattle.std.proofs.Common.{◌≡◌, ℕ, suc, ◌+◌, ◌-◌, ◌<◌, ◌≤◌, true, false, List, Option, Some, None, refl, sym, ◌∙◌, arith, if◌then◌else◌}
use Rattle.view_items.specs.declared.item.Item.{Item}
use Rattle.view_items.specs.Brackets.{if_some}
use Rattle.view_shapes.specs.declared.finding.Sought.{Sought}
use Rattle.view_shapes.specs.Found.{is_sought, is_over, step_over, found_in}

abbrev after : Sought → List Item → List ℕ → ℕ → ℕ → Option ℕ
after s items cs n k = if is_sought s items k then Some k else (if is_over items k then None else if_some (step_over items cs k) (λ m. found_in n s items cs m))

step : (s : Sought) (items : List Item) (cs : List ℕ) (n c k : ℕ) → c < n → found_in (n - c) s items cs k ≡ after s items cs (n - (c + 1)) k
unfolding found_in
step s items cs n c k lt = let e : n - c ≡ suc (n - (c + 1)) = omega (arith, lt) in rw e refl

pub found_here : (s : Sought) (items : List Item) (cs : List ℕ) (n c k : ℕ) (t : Option ℕ) → found_in (n - c) s items cs k ≡ t → c < n → true ≡ is_sought s items k → Some k ≡ t
found_here s items cs n c k t so_far lt here =
    let h : after s items cs (n - (c + 1)) k ≡ Some k = rw (sym here) refl in
    sym h ∙ sym (step s items cs n c k lt) ∙ so_far

pub found_over : (s : Sought) (items : List Item) (cs : List ℕ) (n c k : ℕ) (t : Option ℕ) → found_in (n - c) s items cs k ≡ t → c < n → false ≡ is_sought s items k → true ≡ is_over items k → None ≡ t
found_over s items cs n c k t so_far lt other over =
    let h : after s items cs (n - (c + 1)) k ≡ None = rw (sym other, sym over) refl in
    sym h ∙ sym (step s items cs n c k lt) ∙ so_far

pub found_stuck : (s : Sought) (items : List Item) (cs : List ℕ) (n c k : ℕ) (t : Option ℕ) → found_in (n - c) s items cs k ≡ t → c < n → false ≡ is_sought s items k → false ≡ is_over items k → None ≡ step_over items cs k → None ≡ t
found_stuck s items cs n c k t so_far lt other some stuck =
    let h : after s items cs (n - (c + 1)) k ≡ None = rw (sym other, sym some, sym stuck) refl in
    sym h ∙ sym (step s items cs n c k lt) ∙ so_far

pub found_next : (s : Sought) (items : List Item) (cs : List ℕ) (n c k m : ℕ) (t : Option ℕ) → found_in (n - c) s items cs k ≡ t → c < n → false ≡ is_sought s items k → false ≡ is_over items k → Some m ≡ step_over items cs k
    → found_in (n - (c + 1)) s items cs m ≡ t
found_next s items cs n c k m t so_far lt other some next =
    let h : after s items cs (n - (c + 1)) k ≡ found_in (n - (c + 1)) s items cs m = rw (sym other, sym some, sym next) refl in
    sym h ∙ sym (step s items cs n c k lt) ∙ so_far

pub found_end : (s : Sought) (items : List Item) (cs : List ℕ) (n c k : ℕ) (t : Option ℕ) → found_in (n - c) s items cs k ≡ t → n ≤ c → None ≡ t
unfolding found_in
found_end s items cs n c k t so_far le =
    let e : n - c ≡ 0 = omega (arith, le) in
    let h : found_in (n - c) s items cs k ≡ None = rw e refl in
    sym h ∙ so_far

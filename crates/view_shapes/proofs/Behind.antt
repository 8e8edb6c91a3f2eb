-- One step more of modifiers, and of the clauses of a `try`.
use Rattle.std.proofs.Common.{◌≡◌, ℕ, suc, ◌+◌, ◌-◌, ◌<◌, ◌≤◌, true, false, List, Option, Some, None, refl, sym, ◌∙◌, arith, if◌then◌else◌}
use Rattle.view_items.specs.declared.item.Item.{Item}
use Rattle.view_items.specs.Brackets.{if_some}
use Rattle.view_shapes.specs.Statements.{modifier_end, modifiers_end, from_option, is_clause, clause_end, try_end}

more : (items : List Item) (cs : List ℕ) (n c k : ℕ) → c < n → modifiers_end (n - c) items cs k ≡ from_option k (modifier_end items cs k) (λ m. modifiers_end (n - (c + 1)) items cs m)
unfolding modifiers_end
more items cs n c k lt = let e : n - c ≡ suc (n - (c + 1)) = omega (arith, lt) in rw e refl

pub modifiers_over : (items : List Item) (cs : List ℕ) (n c k t : ℕ) → modifiers_end (n - c) items cs k ≡ t → c < n → None ≡ modifier_end items cs k → k ≡ t
modifiers_over items cs n c k t so_far lt none =
    let h : from_option k (modifier_end items cs k) (λ m. modifiers_end (n - (c + 1)) items cs m) ≡ k = rw (sym none) refl in
    sym h ∙ sym (more items cs n c k lt) ∙ so_far

pub modifiers_next : (items : List Item) (cs : List ℕ) (n c k m t : ℕ) → modifiers_end (n - c) items cs k ≡ t → c < n → Some m ≡ modifier_end items cs k → modifiers_end (n - (c + 1)) items cs m ≡ t
modifiers_next items cs n c k m t so_far lt some =
    let h : from_option k (modifier_end items cs k) (λ j. modifiers_end (n - (c + 1)) items cs j) ≡ modifiers_end (n - (c + 1)) items cs m = rw (sym some) refl in
    sym h ∙ sym (more items cs n c k lt) ∙ so_far

pub modifiers_last : (items : List Item) (cs : List ℕ) (n c k t : ℕ) → modifiers_end (n - c) items cs k ≡ t → n ≤ c → k ≡ t
unfolding modifiers_end
modifiers_last items cs n c k t so_far le =
    let e : n - c ≡ 0 = omega (arith, le) in
    let h : modifiers_end (n - c) items cs k ≡ k = rw e refl in
    sym h ∙ so_far

abbrev after : List Item → List ℕ → ℕ → Option ℕ → Option ℕ
after items cs n o = if_some o (λ m. if is_clause items m then try_end n items cs m else Some m)

tried : (items : List Item) (cs : List ℕ) (n c k : ℕ) → c < n → try_end (n - c) items cs k ≡ after items cs (n - (c + 1)) (clause_end items cs k)
unfolding try_end
tried items cs n c k lt = let e : n - c ≡ suc (n - (c + 1)) = omega (arith, lt) in rw e refl

pub try_stuck : (items : List Item) (cs : List ℕ) (n c k : ℕ) (t : Option ℕ) → try_end (n - c) items cs k ≡ t → c < n → None ≡ clause_end items cs k → None ≡ t
try_stuck items cs n c k t so_far lt none =
    let h : after items cs (n - (c + 1)) (clause_end items cs k) ≡ None = rw (sym none) refl in
    sym h ∙ sym (tried items cs n c k lt) ∙ so_far

pub try_over : (items : List Item) (cs : List ℕ) (n c k m : ℕ) (t : Option ℕ) → try_end (n - c) items cs k ≡ t → c < n → Some m ≡ clause_end items cs k → false ≡ is_clause items m → Some m ≡ t
try_over items cs n c k m t so_far lt some other =
    let h : after items cs (n - (c + 1)) (clause_end items cs k) ≡ Some m = rw (sym some, sym other) refl in
    sym h ∙ sym (tried items cs n c k lt) ∙ so_far

pub try_next : (items : List Item) (cs : List ℕ) (n c k m : ℕ) (t : Option ℕ) → try_end (n - c) items cs k ≡ t → c < n → Some m ≡ clause_end items cs k → true ≡ is_clause items m → try_end (n - (c + 1)) items cs m ≡ t
try_next items cs n c k m t so_far lt some clause =
    let h : after items cs (n - (c + 1)) (clause_end items cs k) ≡ try_end (n - (c + 1)) items cs m = rw (sym some, sym clause) refl in
    sym h ∙ sym (tried items cs n c k lt) ∙ so_far

pub try_none : (items : List Item) (cs : List ℕ) (n c k : ℕ) (t : Option ℕ) → try_end (n - c) items cs k ≡ t → n ≤ c → None ≡ t
unfolding try_end
try_none items cs n c k t so_far le =
    let e : n - c ≡ 0 = omega (arith, le) in
    let h : try_end (n - c) items cs k ≡ None = rw e refl in
    sym h ∙ so_far

-- One step more of an operand, of an argument, and of parentheses.
use Rattle.std.proofs.Common.{◌≡◌, ℕ, suc, ◌+◌, ◌-◌, ◌<◌, ◌≤◌, true, false, List, codes, Option, Some, None, refl, sym, ap, ◌∙◌, arith, if◌then◌else◌}
use Rattle.std.proofs.lemmas.Bool.{eq-eqb, ne_eqb}
use Rattle.view_items.specs.declared.item.Item.{Item}
use Rattle.view_shapes.specs.declared.members.Stretch.{Stretch}
use Rattle.view_shapes.specs.Found.{is_sign, closing_at}
use Rattle.view_scope.specs.Nulls.{is_before_operand, is_behind_operand, operand_from, operand_to, ends_argument, argument_to, bare, bare_behind, from_to}

abbrev after_operand_to : List Item → List ℕ → ℕ → ℕ → ℕ → ℕ
after_operand_to items rounds operator k n = if is_behind_operand items rounds operator k then k else operand_to n items rounds operator (k + 1)

operand_to_step : (items : List Item) (rounds : List ℕ) (operator k : ℕ) (n : ℕ) → 0 < n → operand_to n items rounds operator k ≡ after_operand_to items rounds operator k (n - 1)
unfolding operand_to
operand_to_step items rounds operator k n lt = let e : n ≡ suc (n - 1) = omega (arith, lt) in ap (λ (m : ℕ). operand_to m items rounds operator k) e

pub operand_to_over : (items : List Item) (rounds : List ℕ) (operator k : ℕ) (n : ℕ) (t : ℕ) → operand_to n items rounds operator k ≡ t → 0 < n → true ≡ is_behind_operand items rounds operator k → k ≡ t
operand_to_over items rounds operator k n t so_far lt a =
    let h : after_operand_to items rounds operator k (n - 1) ≡ k = rw (sym a) refl in
    sym h ∙ sym (operand_to_step items rounds operator k n lt) ∙ so_far

pub operand_to_next : (items : List Item) (rounds : List ℕ) (operator k : ℕ) (n : ℕ) (t : ℕ) → operand_to n items rounds operator k ≡ t → 0 < n → false ≡ is_behind_operand items rounds operator k → operand_to (n - 1) items rounds operator (k + 1) ≡ t
operand_to_next items rounds operator k n t so_far lt a =
    let h : after_operand_to items rounds operator k (n - 1) ≡ operand_to (n - 1) items rounds operator (k + 1) = rw (sym a) refl in
    sym h ∙ sym (operand_to_step items rounds operator k n lt) ∙ so_far

pub operand_to_end : (items : List Item) (rounds : List ℕ) (operator k : ℕ) (n : ℕ) (t : ℕ) → operand_to n items rounds operator k ≡ t → n ≤ 0 → k ≡ t
unfolding operand_to
operand_to_end items rounds operator k n t so_far le =
    let e : n ≡ 0 = omega (arith, le) in
    let h : operand_to n items rounds operator k ≡ k = rw e refl in
    sym h ∙ so_far

abbrev after_operand_from : List Item → List ℕ → ℕ → ℕ → ℕ
after_operand_from items rounds operator n = if is_before_operand items rounds operator n then suc n else operand_from n items rounds operator

operand_from_step : (items : List Item) (rounds : List ℕ) (operator : ℕ) (n : ℕ) → 0 < n → operand_from n items rounds operator ≡ after_operand_from items rounds operator (n - 1)
unfolding operand_from
operand_from_step items rounds operator n lt = let e : n ≡ suc (n - 1) = omega (arith, lt) in ap (λ (m : ℕ). operand_from m items rounds operator) e

pub operand_from_over : (items : List Item) (rounds : List ℕ) (operator : ℕ) (n : ℕ) (t : ℕ) → operand_from n items rounds operator ≡ t → 0 < n → true ≡ is_before_operand items rounds operator (n - 1) → suc (n - 1) ≡ t
operand_from_over items rounds operator n t so_far lt a =
    let h : after_operand_from items rounds operator (n - 1) ≡ suc (n - 1) = rw (sym a) refl in
    sym h ∙ sym (operand_from_step items rounds operator n lt) ∙ so_far

pub operand_from_next : (items : List Item) (rounds : List ℕ) (operator : ℕ) (n : ℕ) (t : ℕ) → operand_from n items rounds operator ≡ t → 0 < n → false ≡ is_before_operand items rounds operator (n - 1) → operand_from (n - 1) items rounds operator ≡ t
operand_from_next items rounds operator n t so_far lt a =
    let h : after_operand_from items rounds operator (n - 1) ≡ operand_from (n - 1) items rounds operator = rw (sym a) refl in
    sym h ∙ sym (operand_from_step items rounds operator n lt) ∙ so_far

pub operand_from_end : (items : List Item) (rounds : List ℕ) (operator : ℕ) (n : ℕ) (t : ℕ) → operand_from n items rounds operator ≡ t → n ≤ 0 → 0 ≡ t
unfolding operand_from
operand_from_end items rounds operator n t so_far le =
    let e : n ≡ 0 = omega (arith, le) in
    let h : operand_from n items rounds operator ≡ 0 = rw e refl in
    sym h ∙ so_far

-- ---- Arguments

abbrev after_argument_to : List Item → List ℕ → ℕ → ℕ → ℕ → ℕ
after_argument_to items rounds opening k n = if ends_argument items rounds opening k then k else argument_to n items rounds opening (k + 1)

argument_to_step : (items : List Item) (rounds : List ℕ) (opening k : ℕ) (n : ℕ) → 0 < n → argument_to n items rounds opening k ≡ after_argument_to items rounds opening k (n - 1)
unfolding argument_to
argument_to_step items rounds opening k n lt = let e : n ≡ suc (n - 1) = omega (arith, lt) in ap (λ (m : ℕ). argument_to m items rounds opening k) e

pub argument_to_over : (items : List Item) (rounds : List ℕ) (opening k : ℕ) (n : ℕ) (t : ℕ) → argument_to n items rounds opening k ≡ t → 0 < n → true ≡ ends_argument items rounds opening k → k ≡ t
argument_to_over items rounds opening k n t so_far lt a =
    let h : after_argument_to items rounds opening k (n - 1) ≡ k = rw (sym a) refl in
    sym h ∙ sym (argument_to_step items rounds opening k n lt) ∙ so_far

pub argument_to_next : (items : List Item) (rounds : List ℕ) (opening k : ℕ) (n : ℕ) (t : ℕ) → argument_to n items rounds opening k ≡ t → 0 < n → false ≡ ends_argument items rounds opening k → argument_to (n - 1) items rounds opening (k + 1) ≡ t
argument_to_next items rounds opening k n t so_far lt a =
    let h : after_argument_to items rounds opening k (n - 1) ≡ argument_to (n - 1) items rounds opening (k + 1) = rw (sym a) refl in
    sym h ∙ sym (argument_to_step items rounds opening k n lt) ∙ so_far

pub argument_to_end : (items : List Item) (rounds : List ℕ) (opening k : ℕ) (n : ℕ) (t : ℕ) → argument_to n items rounds opening k ≡ t → n ≤ 0 → k ≡ t
unfolding argument_to
argument_to_end items rounds opening k n t so_far le =
    let e : n ≡ 0 = omega (arith, le) in
    let h : argument_to n items rounds opening k ≡ k = rw e refl in
    sym h ∙ so_far

-- ---- Casts and parentheses

abbrev after_bare : List Item → List ℕ → ℕ → ℕ → ℕ → Stretch
after_bare items cs from to n =
    if is_sign (codes "(") items from then bare_behind (λ f t. bare n items cs f t) from to (closing_at items cs from) else from_to from to

bare_step : (items : List Item) (cs : List ℕ) (from to : ℕ) (n : ℕ) → 0 < n → bare n items cs from to ≡ after_bare items cs from to (n - 1)
unfolding bare
bare_step items cs from to n lt = let e : n ≡ suc (n - 1) = omega (arith, lt) in ap (λ (m : ℕ). bare m items cs from to) e

pub bare_other : (items : List Item) (cs : List ℕ) (from to : ℕ) (n : ℕ) (t : Stretch) → bare n items cs from to ≡ t → 0 < n → false ≡ is_sign (codes "(") items from → from_to from to ≡ t
bare_other items cs from to n t so_far lt a =
    let h : after_bare items cs from to (n - 1) ≡ from_to from to = rw (sym a) refl in
    sym h ∙ sym (bare_step items cs from to n lt) ∙ so_far

pub bare_stuck : (items : List Item) (cs : List ℕ) (from to : ℕ) (n : ℕ) (t : Stretch) → bare n items cs from to ≡ t → 0 < n → true ≡ is_sign (codes "(") items from → None ≡ closing_at items cs from → from_to from to ≡ t
bare_stuck items cs from to n t so_far lt a b =
    let h : after_bare items cs from to (n - 1) ≡ from_to from to = rw (sym a, sym b) refl in
    sym h ∙ sym (bare_step items cs from to n lt) ∙ so_far

pub bare_inside : (items : List Item) (cs : List ℕ) (from to : ℕ) (n c : ℕ) (t : Stretch) → bare n items cs from to ≡ t → 0 < n → true ≡ is_sign (codes "(") items from → Some c ≡ closing_at items cs from → c + 1 ≡ to
    → bare (n - 1) items cs (from + 1) c ≡ t
bare_inside items cs from to n c t so_far lt a b e =
    let h : after_bare items cs from to (n - 1) ≡ bare (n - 1) items cs (from + 1) c = rw (sym a, sym b, eq-eqb _ _ e) refl in
    sym h ∙ sym (bare_step items cs from to n lt) ∙ so_far

pub bare_behind_cast : (items : List Item) (cs : List ℕ) (from to : ℕ) (n c : ℕ) (t : Stretch) → bare n items cs from to ≡ t → 0 < n → true ≡ is_sign (codes "(") items from → Some c ≡ closing_at items cs from → ¬ (c + 1 ≡ to)
    → bare (n - 1) items cs (c + 1) to ≡ t
bare_behind_cast items cs from to n c t so_far lt a b e =
    let h : after_bare items cs from to (n - 1) ≡ bare (n - 1) items cs (c + 1) to = rw (sym a, sym b, ne_eqb _ _ e) refl in
    sym h ∙ sym (bare_step items cs from to n lt) ∙ so_far

pub bare_end : (items : List Item) (cs : List ℕ) (from to : ℕ) (n : ℕ) (t : Stretch) → bare n items cs from to ≡ t → n ≤ 0 → from_to from to ≡ t
unfolding bare
bare_end items cs from to n t so_far le =
    let e : n ≡ 0 = omega (arith, le) in
    let h : bare n items cs from to ≡ from_to from to = rw e refl in
    sym h ∙ so_far

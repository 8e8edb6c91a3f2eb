-- One step more of an import.
use Rattle.std.proofs.Common.{◌≡◌, ℕ, suc, ◌-◌, ◌<◌, ◌≤◌, ◌==◌, ◌||◌, not, Bool, true, false, List, codes, refl, sym, ap, ◌∙◌, arith, if◌then◌else◌}
use Rattle.std.proofs.lemmas.Bool.{eq-eqb, ne_eqb}
use Rattle.view_items.specs.declared.item.Item.{Item}
use Rattle.view_shapes.specs.Found.{is_word}
use Rattle.view_scope.specs.Obscured.{is_in_import, may_be_imported}

abbrev after_is_in_import : List Item → ℕ → ℕ → Bool
after_is_in_import items k n = if is_word (codes "import") items k then true else (if not (may_be_imported items k) || (k == 0) then false else is_in_import n items (k - 1))

is_in_import_step : (items : List Item) (k : ℕ) (n : ℕ) → 0 < n → is_in_import n items k ≡ after_is_in_import items k (n - 1)
unfolding is_in_import
is_in_import_step items k n lt = let e : n ≡ suc (n - 1) = omega (arith, lt) in ap (λ (m : ℕ). is_in_import m items k) e

pub is_in_import_here : (items : List Item) (k : ℕ) (n : ℕ) (t : Bool) → is_in_import n items k ≡ t → 0 < n → true ≡ is_word (codes "import") items k → true ≡ t
is_in_import_here items k n t so_far lt a =
    let h : after_is_in_import items k (n - 1) ≡ true = rw (sym a) refl in
    sym h ∙ sym (is_in_import_step items k n lt) ∙ so_far

pub is_in_import_other : (items : List Item) (k : ℕ) (n : ℕ) (t : Bool) → is_in_import n items k ≡ t → 0 < n → false ≡ is_word (codes "import") items k → false ≡ may_be_imported items k → false ≡ t
is_in_import_other items k n t so_far lt a b =
    let h : after_is_in_import items k (n - 1) ≡ false = rw (sym a, sym b) refl in
    sym h ∙ sym (is_in_import_step items k n lt) ∙ so_far

pub is_in_import_first : (items : List Item) (k : ℕ) (n : ℕ) (t : Bool) → is_in_import n items k ≡ t → 0 < n → false ≡ is_word (codes "import") items k → true ≡ may_be_imported items k → k ≡ 0 → false ≡ t
is_in_import_first items k n t so_far lt a b c =
    let h : after_is_in_import items k (n - 1) ≡ false = rw (sym a, sym b, eq-eqb _ _ c) refl in
    sym h ∙ sym (is_in_import_step items k n lt) ∙ so_far

pub is_in_import_next : (items : List Item) (k : ℕ) (n : ℕ) (t : Bool) → is_in_import n items k ≡ t → 0 < n → false ≡ is_word (codes "import") items k → true ≡ may_be_imported items k → ¬ (k ≡ 0) → is_in_import (n - 1) items (k - 1) ≡ t
is_in_import_next items k n t so_far lt a b c =
    let h : after_is_in_import items k (n - 1) ≡ is_in_import (n - 1) items (k - 1) = rw (sym a, sym b, ne_eqb _ _ c) refl in
    sym h ∙ sym (is_in_import_step items k n lt) ∙ so_far

pub is_in_import_end : (items : List Item) (k : ℕ) (n : ℕ) (t : Bool) → is_in_import n items k ≡ t → n ≤ 0 → false ≡ t
unfolding is_in_import
is_in_import_end items k n t so_far le =
    let e : n ≡ 0 = omega (arith, le) in
    let h : is_in_import n items k ≡ false = rw e refl in
    sym h ∙ so_far

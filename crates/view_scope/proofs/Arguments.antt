-- One step more of a type.
use Rattle.std.proofs.Common.{◌≡◌, ℕ, suc, ◌+◌, ◌-◌, ◌<◌, ◌≤◌, ◌==◌, true, false, List, length, codes, Option, Some, None, refl, sym, ap, ◌∙◌, arith, if◌then◌else◌}
use Rattle.std.proofs.lemmas.Bool.{eq-eqb, ne_eqb}
use Rattle.view_items.specs.declared.item.Item.{Item}
use Rattle.view_items.specs.Brackets.{if_some}
use Rattle.view_shapes.specs.Found.{is_sign}
use Rattle.view_scope.specs.JavaTypes.{arguments_end, is_in_arguments, is_part, type_rest}

abbrev after_arguments_end : ℕ → List Item → ℕ → ℕ → Option ℕ
after_arguments_end depth items k n = if is_sign (codes "<") items k then arguments_end n (depth + 1) items (k + 1) else (if is_sign (codes ">") items k then (if depth == 1 then Some (k + 1) else arguments_end n (depth - 1) items (k + 1)) else (if is_in_arguments items k then arguments_end n depth items (k + 1) else None))

arguments_end_step : (depth : ℕ) (items : List Item) (k : ℕ) (n : ℕ) → 0 < n → arguments_end n depth items k ≡ after_arguments_end depth items k (n - 1)
unfolding arguments_end
arguments_end_step depth items k n lt = let e : n ≡ suc (n - 1) = omega (arith, lt) in ap (λ (m : ℕ). arguments_end m depth items k) e

pub arguments_end_more : (depth : ℕ) (items : List Item) (k : ℕ) (n : ℕ) (t : Option ℕ) → arguments_end n depth items k ≡ t → 0 < n → true ≡ is_sign (codes "<") items k → arguments_end (n - 1) (depth + 1) items (k + 1) ≡ t
arguments_end_more depth items k n t so_far lt a =
    let h : after_arguments_end depth items k (n - 1) ≡ arguments_end (n - 1) (depth + 1) items (k + 1) = rw (sym a) refl in
    sym h ∙ sym (arguments_end_step depth items k n lt) ∙ so_far

pub arguments_end_last : (depth : ℕ) (items : List Item) (k : ℕ) (n : ℕ) (t : Option ℕ) → arguments_end n depth items k ≡ t → 0 < n → false ≡ is_sign (codes "<") items k → true ≡ is_sign (codes ">") items k → depth ≡ 1 → Some (k + 1) ≡ t
arguments_end_last depth items k n t so_far lt a b c =
    let h : after_arguments_end depth items k (n - 1) ≡ Some (k + 1) = rw (sym a, sym b, eq-eqb _ _ c) refl in
    sym h ∙ sym (arguments_end_step depth items k n lt) ∙ so_far

pub arguments_end_closed : (depth : ℕ) (items : List Item) (k : ℕ) (n : ℕ) (t : Option ℕ) → arguments_end n depth items k ≡ t → 0 < n → false ≡ is_sign (codes "<") items k → true ≡ is_sign (codes ">") items k → ¬ (depth ≡ 1) → arguments_end (n - 1) (depth - 1) items (k + 1) ≡ t
arguments_end_closed depth items k n t so_far lt a b c =
    let h : after_arguments_end depth items k (n - 1) ≡ arguments_end (n - 1) (depth - 1) items (k + 1) = rw (sym a, sym b, ne_eqb _ _ c) refl in
    sym h ∙ sym (arguments_end_step depth items k n lt) ∙ so_far

pub arguments_end_next : (depth : ℕ) (items : List Item) (k : ℕ) (n : ℕ) (t : Option ℕ) → arguments_end n depth items k ≡ t → 0 < n → false ≡ is_sign (codes "<") items k → false ≡ is_sign (codes ">") items k → true ≡ is_in_arguments items k → arguments_end (n - 1) depth items (k + 1) ≡ t
arguments_end_next depth items k n t so_far lt a b c =
    let h : after_arguments_end depth items k (n - 1) ≡ arguments_end (n - 1) depth items (k + 1) = rw (sym a, sym b, sym c) refl in
    sym h ∙ sym (arguments_end_step depth items k n lt) ∙ so_far

pub arguments_end_stuck : (depth : ℕ) (items : List Item) (k : ℕ) (n : ℕ) (t : Option ℕ) → arguments_end n depth items k ≡ t → 0 < n → false ≡ is_sign (codes "<") items k → false ≡ is_sign (codes ">") items k → false ≡ is_in_arguments items k → None ≡ t
arguments_end_stuck depth items k n t so_far lt a b c =
    let h : after_arguments_end depth items k (n - 1) ≡ None = rw (sym a, sym b, sym c) refl in
    sym h ∙ sym (arguments_end_step depth items k n lt) ∙ so_far

pub arguments_end_end : (depth : ℕ) (items : List Item) (k : ℕ) (n : ℕ) (t : Option ℕ) → arguments_end n depth items k ≡ t → n ≤ 0 → None ≡ t
unfolding arguments_end
arguments_end_end depth items k n t so_far le =
    let e : n ≡ 0 = omega (arith, le) in
    let h : arguments_end n depth items k ≡ None = rw e refl in
    sym h ∙ so_far

abbrev after_type_rest : List Item → ℕ → ℕ → Option ℕ
after_type_rest items k n = if is_sign (codes "<") items k then if_some (arguments_end (length items) 0 items k) (type_rest n items) else (if is_part items k then type_rest n items (k + 2) else Some k)

type_rest_step : (items : List Item) (k : ℕ) (n : ℕ) → 0 < n → type_rest n items k ≡ after_type_rest items k (n - 1)
unfolding type_rest
type_rest_step items k n lt = let e : n ≡ suc (n - 1) = omega (arith, lt) in ap (λ (m : ℕ). type_rest m items k) e

pub type_rest_stuck : (items : List Item) (k : ℕ) (n : ℕ) (t : Option ℕ) → type_rest n items k ≡ t → 0 < n → true ≡ is_sign (codes "<") items k → None ≡ arguments_end (length items) 0 items k → None ≡ t
type_rest_stuck items k n t so_far lt a b =
    let h : after_type_rest items k (n - 1) ≡ None = rw (sym a, sym b) refl in
    sym h ∙ sym (type_rest_step items k n lt) ∙ so_far

pub type_rest_next : (items : List Item) (k : ℕ) (n : ℕ) (m : ℕ) (t : Option ℕ) → type_rest n items k ≡ t → 0 < n → true ≡ is_sign (codes "<") items k → Some m ≡ arguments_end (length items) 0 items k → type_rest (n - 1) items m ≡ t
type_rest_next items k n m t so_far lt a b =
    let h : after_type_rest items k (n - 1) ≡ type_rest (n - 1) items m = rw (sym a, sym b) refl in
    sym h ∙ sym (type_rest_step items k n lt) ∙ so_far

pub type_rest_part : (items : List Item) (k : ℕ) (n : ℕ) (t : Option ℕ) → type_rest n items k ≡ t → 0 < n → false ≡ is_sign (codes "<") items k → true ≡ is_part items k → type_rest (n - 1) items (k + 2) ≡ t
type_rest_part items k n t so_far lt a b =
    let h : after_type_rest items k (n - 1) ≡ type_rest (n - 1) items (k + 2) = rw (sym a, sym b) refl in
    sym h ∙ sym (type_rest_step items k n lt) ∙ so_far

pub type_rest_over : (items : List Item) (k : ℕ) (n : ℕ) (t : Option ℕ) → type_rest n items k ≡ t → 0 < n → false ≡ is_sign (codes "<") items k → false ≡ is_part items k → Some k ≡ t
type_rest_over items k n t so_far lt a b =
    let h : after_type_rest items k (n - 1) ≡ Some k = rw (sym a, sym b) refl in
    sym h ∙ sym (type_rest_step items k n lt) ∙ so_far

pub type_rest_end : (items : List Item) (k : ℕ) (n : ℕ) (t : Option ℕ) → type_rest n items k ≡ t → n ≤ 0 → None ≡ t
unfolding type_rest
type_rest_end items k n t so_far le =
    let e : n ≡ 0 = omega (arith, le) in
    let h : type_rest n items k ≡ None = rw e refl in
    sym h ∙ so_far

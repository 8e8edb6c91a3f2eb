-- One step more of what stands before a type, and of names.
use Rattle.std.proofs.Common.{◌≡◌, ℕ, suc, ◌+◌, ◌-◌, ◌<◌, ◌≤◌, ◌==◌, true, false, List, [], ◌∷◌, ◌++◌, codes, Option, Some, None, refl, sym, ap, ◌∙◌, arith, if◌then◌else◌}
use Rattle.std.proofs.lemmas.Bool.{eq-eqb, ne_eqb}
use Rattle.view_items.specs.declared.item.Item.{Item}
use Rattle.view_items.specs.Brackets.{if_some}
use Rattle.view_shapes.specs.Found.{is_sign, is_one_of_words}
use Rattle.view_shapes.specs.declared.method.Parameter.{Parameter}
use Rattle.view_scope.specs.Methods.{parameter_at, parameters_from}

abbrev after_parameters_from : List Parameter → List Item → List ℕ → ℕ → ℕ → ℕ → Option (List Parameter)
after_parameters_from ps items cs k to n = if_some (parameter_at items cs k) (λ p. if (p.name + 1) == to then Some (ps ++ p ∷ []) else (if is_sign (codes ",") items (p.name + 1) then parameters_from n (ps ++ p ∷ []) items cs (p.name + 2) to else None))

parameters_from_step : (ps : List Parameter) (items : List Item) (cs : List ℕ) (k to : ℕ) (n : ℕ) → 0 < n → parameters_from n ps items cs k to ≡ after_parameters_from ps items cs k to (n - 1)
unfolding parameters_from
parameters_from_step ps items cs k to n lt = let e : n ≡ suc (n - 1) = omega (arith, lt) in ap (λ (m : ℕ). parameters_from m ps items cs k to) e

pub parameters_from_stuck : (ps : List Parameter) (items : List Item) (cs : List ℕ) (k to : ℕ) (n : ℕ) (t : Option (List Parameter)) → parameters_from n ps items cs k to ≡ t → 0 < n → None ≡ parameter_at items cs k → None ≡ t
parameters_from_stuck ps items cs k to n t so_far lt a =
    let h : after_parameters_from ps items cs k to (n - 1) ≡ None = rw (sym a) refl in
    sym h ∙ sym (parameters_from_step ps items cs k to n lt) ∙ so_far

pub parameters_from_last : (ps : List Parameter) (items : List Item) (cs : List ℕ) (k to : ℕ) (n : ℕ) (p : Parameter) (more : List Parameter) (t : Option (List Parameter)) → parameters_from n ps items cs k to ≡ t → 0 < n → Some p ≡ parameter_at items cs k → more ≡ ps ++ p ∷ [] → p.name + 1 ≡ to → Some more ≡ t
parameters_from_last ps items cs k to n p more t so_far lt a d b =
    let h : after_parameters_from ps items cs k to (n - 1) ≡ Some (ps ++ p ∷ []) = rw (sym a, eq-eqb _ _ b) refl in
    rw d (sym h ∙ sym (parameters_from_step ps items cs k to n lt) ∙ so_far)

pub parameters_from_other : (ps : List Parameter) (items : List Item) (cs : List ℕ) (k to : ℕ) (n : ℕ) (p : Parameter) (t : Option (List Parameter)) → parameters_from n ps items cs k to ≡ t → 0 < n → Some p ≡ parameter_at items cs k → ¬ (p.name + 1 ≡ to) → false ≡ is_sign (codes ",") items (p.name + 1) → None ≡ t
parameters_from_other ps items cs k to n p t so_far lt a b c =
    let h : after_parameters_from ps items cs k to (n - 1) ≡ None = rw (sym a, ne_eqb _ _ b, sym c) refl in
    sym h ∙ sym (parameters_from_step ps items cs k to n lt) ∙ so_far

pub parameters_from_next : (ps : List Parameter) (items : List Item) (cs : List ℕ) (k to : ℕ) (n : ℕ) (p : Parameter) (more : List Parameter) (t : Option (List Parameter)) → parameters_from n ps items cs k to ≡ t → 0 < n → Some p ≡ parameter_at items cs k → more ≡ ps ++ p ∷ [] → ¬ (p.name + 1 ≡ to) → true ≡ is_sign (codes ",") items (p.name + 1) → parameters_from (n - 1) more items cs (p.name + 2) to ≡ t
parameters_from_next ps items cs k to n p more t so_far lt a d b c =
    let h : after_parameters_from ps items cs k to (n - 1) ≡ parameters_from (n - 1) (ps ++ p ∷ []) items cs (p.name + 2) to = rw (sym a, ne_eqb _ _ b, sym c) refl in
    rw d (sym h ∙ sym (parameters_from_step ps items cs k to n lt) ∙ so_far)

pub parameters_from_end : (ps : List Parameter) (items : List Item) (cs : List ℕ) (k to : ℕ) (n : ℕ) (t : Option (List Parameter)) → parameters_from n ps items cs k to ≡ t → n ≤ 0 → None ≡ t
unfolding parameters_from
parameters_from_end ps items cs k to n t so_far le =
    let e : n ≡ 0 = omega (arith, le) in
    let h : parameters_from n ps items cs k to ≡ None = rw e refl in
    sym h ∙ so_far

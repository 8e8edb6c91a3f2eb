-- Texts of inner SELECTs, appended piece by piece.
use Rattle.std.proofs.Common.{◌≡◌, ℕ, ◌+◌, ◌++◌, true, List, length, codes, ap, ◌∙◌, append_assoc}
use Rattle.sql_ast.specs.declared.tree.FromItem.{FromItem}
use Rattle.sql_ast.specs.Canonical.{from_text, filter_text, closing}
use Rattle.sql_ast.specs.Tree.{Filter}

-- appended after what was appended
pub step : (old new p q : List ℕ) {mid : List ℕ} → mid ≡ old ++ p → new ≡ mid ++ q → new ≡ old ++ (p ++ q)
step old new p q first second = second ∙ ap (λ (w : List ℕ). w ++ q) first ∙ append_assoc old p q

pub inner_text : (around : ℕ) (seen from : List FromItem) (f : Filter) (inner : ℕ) (old a b new : List ℕ) → seen ≡ from → inner ≡ around + length from → a ≡ old ++ from_text around seen → b ≡ a ++ filter_text inner f → new ≡ b ++ closing true → new ≡ old ++ (from_text around from ++ filter_text (around + length from) f ++ codes ")")
inner_text around seen from f inner old a b new same count first second last =
    step old new (from_text around from ++ filter_text (around + length from) f) (closing true)
    (step old b (from_text around from) (filter_text (around + length from) f)
    (first ∙ ap (λ v. old ++ from_text around v) same)
    (second ∙ ap (λ n. a ++ filter_text n f) count)) last

-- a SELECT behind what stands before its FROM items
pub with_head : (old head from filter_ end a new : List ℕ) → a ≡ old ++ head → new ≡ a ++ (from ++ filter_ ++ end) → new ≡ old ++ (head ++ from ++ filter_ ++ end)
with_head old head from filter_ end a new first second =
    let assoc : (old ++ head) ++ (from ++ filter_ ++ end) ≡ old ++ (head ++ from ++ filter_ ++ end) = simp append_assoc in
    second ∙ ap (λ (w : List ℕ). w ++ (from ++ filter_ ++ end)) first ∙ assoc

-- What comes of numbers one after the other, behind what came before.
use Rattle.std.proofs.Common.{◌≡◌, ℕ, ◌+◌, ◌-◌, ◌<◌, ◌≤◌, List, [], ◌++◌, sym, ap, ◌∙◌, append_assoc}
use Rattle.std.proofs.lemmas.List.{append-nil}
use Rattle.std.specs.List.{flat_map}
use Rattle.view_shapes.specs.declared.members.Stretch.{Stretch}
use Rattle.view_shapes.specs.Mentions.{numbers}
use Rattle.view_shapes.proofs.Numbers.{numbers_more, numbers_none}

pub flat_next : (f : ℕ → List Stretch) (k to : ℕ) (old more t : List Stretch) → old ++ flat_map f (numbers k (to - k)) ≡ t → k < to → more ≡ old ++ f k
    → more ++ flat_map f (numbers (k + 1) (to - (k + 1))) ≡ t
flat_next f k to old more t so_far lt is_more =
    let h : flat_map f (numbers k (to - k)) ≡ f k ++ flat_map f (numbers (k + 1) (to - (k + 1))) = ap (λ (ks : List ℕ). flat_map f ks) (numbers_more k to lt) in
    rw is_more (append_assoc old (f k) (flat_map f (numbers (k + 1) (to - (k + 1)))) ∙ ap (λ (ss : List Stretch). old ++ ss) (sym h) ∙ so_far)

pub flat_end : (f : ℕ → List Stretch) (k to : ℕ) (old t : List Stretch) → old ++ flat_map f (numbers k (to - k)) ≡ t → to ≤ k → old ≡ t
flat_end f k to old t so_far le =
    let h : flat_map f (numbers k (to - k)) ≡ [] = ap (λ (ks : List ℕ). flat_map f ks) (numbers_none k to le) in
    sym (append-nil old) ∙ ap (λ (ss : List Stretch). old ++ ss) (sym h) ∙ so_far

-- One statement more of a block, and one block more of a statement.
use Rattle.std.proofs.Common.{◌≡◌, ℕ, suc, ◌+◌, ◌-◌, ◌<◌, ◌≤◌, List, [], ◌∷◌, ◌++◌, length, Some, None, refl, sym, ap, ◌∙◌, append_assoc, arith}
use Rattle.std.proofs.lemmas.List.{append-nil}
use Rattle.std.specs.List.{flat_map}
use Rattle.view_items.specs.declared.item.Item.{Item}
use Rattle.view_shapes.specs.declared.members.Stretch.{Stretch}
use Rattle.view_shapes.specs.Members.{and_then}
use Rattle.view_shapes.specs.Statements.{end_of}
use Rattle.view_shapes.specs.Blocks.{inner_blocks, statements_in, blocks_below, blocks_under}

pub no_level : (items : List Item) (cs : List ℕ) (levels : ℕ) (b : Stretch) (old : List Stretch) → levels ≡ 0 → old ≡ old ++ blocks_under levels items cs b
unfolding blocks_under
no_level items cs levels b old none =
    rw none (sym (append-nil old))

pub begun : (items : List Item) (cs : List ℕ) (levels : ℕ) (b : Stretch) (old more : List Stretch) → ¬ (levels ≡ 0) → more ≡ old ++ b ∷ []
    → more ++ flat_map (blocks_below (blocks_under (levels - 1) items cs) items cs) (statements_in (length items - 0) items cs b.from) ≡ old ++ blocks_under levels items cs b
unfolding blocks_under
begun items cs levels b old more some is_more =
    let e : levels ≡ suc (levels - 1) = omega (arith, some) in
    let h : blocks_under levels items cs b ≡ b ∷ flat_map (blocks_below (blocks_under (levels - 1) items cs) items cs) (statements_in (length items) items cs b.from) =
    ap (λ (n : ℕ). blocks_under n items cs b) e in
    let z : length items - 0 ≡ length items = omega arith in
    rw (is_more, h, z) (append_assoc old (b ∷ []) _)

stepped : (under : Stretch → List Stretch) (items : List Item) (cs : List ℕ) (n c k : ℕ) → c < n
    → statements_in (n - c) items cs k ≡ and_then k (end_of items cs k) (λ m. statements_in (n - (c + 1)) items cs m)
unfolding statements_in
stepped under items cs n c k lt = let e : n - c ≡ suc (n - (c + 1)) = omega (arith, lt) in rw e refl

pub below_over : (under : Stretch → List Stretch) (items : List Item) (cs : List ℕ) (n c k : ℕ) (old t : List Stretch) → old ++ flat_map (blocks_below under items cs) (statements_in (n - c) items cs k) ≡ t → c < n
    → None ≡ end_of items cs k → old ≡ t
below_over under items cs n c k old t so_far lt none =
    let h : statements_in (n - c) items cs k ≡ [] = stepped under items cs n c k lt ∙ rw (sym none) refl in
    sym (append-nil old) ∙ ap (λ (ss : List Stretch). old ++ flat_map (blocks_below under items cs) ss) (sym h) ∙ so_far

pub below_next : (under : Stretch → List Stretch) (items : List Item) (cs : List ℕ) (n c k m : ℕ) (old more t : List Stretch) → old ++ flat_map (blocks_below under items cs) (statements_in (n - c) items cs k) ≡ t → c < n
    → Some m ≡ end_of items cs k → more ≡ old ++ flat_map under (inner_blocks items cs k) → more ++ flat_map (blocks_below under items cs) (statements_in (n - (c + 1)) items cs m) ≡ t
below_next under items cs n c k m old more t so_far lt some is_more =
    let h : statements_in (n - c) items cs k ≡ record { from = k; to = m } ∷ statements_in (n - (c + 1)) items cs m = stepped under items cs n c k lt ∙ rw (sym some) refl in
    let rest : List Stretch = flat_map (blocks_below under items cs) (statements_in (n - (c + 1)) items cs m) in
    rw is_more (append_assoc old (flat_map under (inner_blocks items cs k)) rest ∙ ap (λ (ss : List Stretch). old ++ flat_map (blocks_below under items cs) ss) (sym h) ∙ so_far)

pub below_end : (under : Stretch → List Stretch) (items : List Item) (cs : List ℕ) (n c k : ℕ) (old t : List Stretch) → old ++ flat_map (blocks_below under items cs) (statements_in (n - c) items cs k) ≡ t → n ≤ c → old ≡ t
unfolding statements_in
below_end under items cs n c k old t so_far le =
    let e : n - c ≡ 0 = omega (arith, le) in
    let h : statements_in (n - c) items cs k ≡ [] = rw e refl in
    sym (append-nil old) ∙ ap (λ (ss : List Stretch). old ++ flat_map (blocks_below under items cs) ss) (sym h) ∙ so_far

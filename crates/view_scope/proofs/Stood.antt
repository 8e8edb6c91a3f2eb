-- One statement more of a block.
use Rattle.std.proofs.Common.{◌≡◌, ℕ, suc, ◌+◌, ◌-◌, ◌<◌, ◌≤◌, List, [], ◌∷◌, ◌++◌, map, Some, None, Bool, refl, sym, ap, ◌∙◌, append_assoc, arith}
use Rattle.std.proofs.lemmas.List.{append-nil}
use Rattle.view_items.specs.declared.item.Item.{Item}
use Rattle.view_shapes.specs.declared.members.Stretch.{Stretch}
use Rattle.view_shapes.specs.Members.{and_then}
use Rattle.view_shapes.specs.Statements.{end_of}
use Rattle.view_shapes.specs.Blocks.{statements_in}
use Rattle.view_scope.specs.declared.standing.Standing.{Standing}
use Rattle.view_scope.specs.Guards.{leaves, last_leaves}

stepped : (items : List Item) (cs : List ℕ) (n c k : ℕ) → c < n → statements_in (n - c) items cs k ≡ and_then k (end_of items cs k) (λ m. statements_in (n - (c + 1)) items cs m)
unfolding statements_in
stepped items cs n c k lt = let e : n - c ≡ suc (n - (c + 1)) = omega (arith, lt) in rw e refl

over : (items : List Item) (cs : List ℕ) (n c k : ℕ) → c < n → None ≡ end_of items cs k → statements_in (n - c) items cs k ≡ []
over items cs n c k lt none = stepped items cs n c k lt ∙ rw (sym none) refl

next : (items : List Item) (cs : List ℕ) (n c k m : ℕ) → c < n → Some m ≡ end_of items cs k → statements_in (n - c) items cs k ≡ record { from = k; to = m } ∷ statements_in (n - (c + 1)) items cs m
next items cs n c k m lt some = stepped items cs n c k lt ∙ rw (sym some) refl

none_left : (items : List Item) (cs : List ℕ) (n c k : ℕ) → n ≤ c → statements_in (n - c) items cs k ≡ []
unfolding statements_in
none_left items cs n c k le = let e : n - c ≡ 0 = omega (arith, le) in rw e refl

ended : (f : Stretch → Standing) (ss : List Stretch) (old t : List Standing) → old ++ map f ss ≡ t → ss ≡ [] → old ≡ t
ended f ss old t so_far none = sym (append-nil old) ∙ ap (λ (s : List Stretch). old ++ map f s) (sym none) ∙ so_far

pub stood_over : (f : Stretch → Standing) (items : List Item) (cs : List ℕ) (n c k : ℕ) (old t : List Standing) → old ++ map f (statements_in (n - c) items cs k) ≡ t → c < n → None ≡ end_of items cs k → old ≡ t
stood_over f items cs n c k old t so_far lt none = ended f _ old t so_far (over items cs n c k lt none)

pub stood_next : (f : Stretch → Standing) (items : List Item) (cs : List ℕ) (n c k m : ℕ) (old more t : List Standing) → old ++ map f (statements_in (n - c) items cs k) ≡ t → c < n → Some m ≡ end_of items cs k
    → more ≡ old ++ f (record { from = k; to = m }) ∷ [] → more ++ map f (statements_in (n - (c + 1)) items cs m) ≡ t
stood_next f items cs n c k m old more t so_far lt some is_more =
    let rest : List Standing = map f (statements_in (n - (c + 1)) items cs m) in
    rw is_more (append_assoc old (f (record { from = k; to = m }) ∷ []) rest ∙ ap (λ (s : List Stretch). old ++ map f s) (sym (next items cs n c k m lt some)) ∙ so_far)

pub stood_end : (f : Stretch → Standing) (items : List Item) (cs : List ℕ) (n c k : ℕ) (old t : List Standing) → old ++ map f (statements_in (n - c) items cs k) ≡ t → n ≤ c → old ≡ t
stood_end f items cs n c k old t so_far le = ended f _ old t so_far (none_left items cs n c k le)

pub leaves_over : (items : List Item) (cs : List ℕ) (n c k : ℕ) (b t : Bool) → last_leaves items b (statements_in (n - c) items cs k) ≡ t → c < n → None ≡ end_of items cs k → b ≡ t
leaves_over items cs n c k b t so_far lt none = ap (λ (ss : List Stretch). last_leaves items b ss) (sym (over items cs n c k lt none)) ∙ so_far

pub leaves_next : (items : List Item) (cs : List ℕ) (n c k m : ℕ) (b d t : Bool) → last_leaves items b (statements_in (n - c) items cs k) ≡ t → c < n → Some m ≡ end_of items cs k → d ≡ leaves items k
    → last_leaves items d (statements_in (n - (c + 1)) items cs m) ≡ t
leaves_next items cs n c k m b d t so_far lt some is_d =
    rw is_d (ap (λ (ss : List Stretch). last_leaves items b ss) (sym (next items cs n c k m lt some)) ∙ so_far)

pub leaves_end : (items : List Item) (cs : List ℕ) (n c k : ℕ) (b t : Bool) → last_leaves items b (statements_in (n - c) items cs k) ≡ t → n ≤ c → b ≡ t
leaves_end items cs n c k b t so_far le = ap (λ (ss : List Stretch). last_leaves items b ss) (sym (none_left items cs n c k le)) ∙ so_far

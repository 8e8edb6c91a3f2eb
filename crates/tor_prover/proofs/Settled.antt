-- Settled terms are their own normal forms, and normal forms are settled.
use Rattle.std.proofs.Common.{◌≡◌, ℕ, zero, suc, ◌<◌, ◌≤◌, List, [], ◌∷◌, refl, sym, ap, ap₂, ◌∙◌, subst, arith}
use Rattle.std.specs.declared.option.Option.{Option}
use Rattle.std.specs.declared.option.Option.TheVariants.{Some, None}
use Rattle.tor_terms.specs.declared.term.Atom.{Atom}
use Rattle.tor_terms.specs.Plain.{Tree, Nil, Walk, Top, One, Single, Cat, Join, Sel, Proj, Uniq, Insert, Hold, Lit, Item, Count, Sum, Any, Best, Pick, Add, Or}
use Rattle.tor_axioms.specs.declared.derivation.Step.{Step}
use Rattle.tor_axioms.specs.declared.facts.Literal.{Literal}
use Rattle.tor_axioms.specs.Weight.{weight}
use Rattle.tor_axioms.proofs.Lower.{weight-two}
use Rattle.tor_prover.specs.Normal.{Outcome, Normal, Meets, Parts, NoChild, OneChild, TwoChildren, parts, after_steps, with_child, with_children, normal_parts, first_rule, met, unless_met, rewritten, at_head, then_head, made, normal_within, normal_form}
use Rattle.tor_prover.specs.Reduced.{Reduct, Stuck, reduced}
use Rattle.tor_prover.specs.Settled.{HeadIsSettled, IsSettled, PartsAre, ChildrenAreSettled, GrandchildrenAreSettled}
use Rattle.tor_prover.proofs.First.{IsFirst, is_first}
use Rattle.tor_prover.proofs.Good.{IsGood, good_parts, good_within}
use Rattle.tor_prover.proofs.Made.{settled-head}
use Rattle.tor_prover.proofs.Positions.{ArePartsOf, parts-are}
use Rattle.tor_prover.proofs.Unfold.{AreLighter, parts-lighter, normal_form-made}

parts_all : (P Q : Tree → Type 0) → ((t : Tree) → P t → Q t) → (p : Parts) → PartsAre P p → PartsAre Q p
parts_all P Q f (NoChild t) h = tt
parts_all P Q f (OneChild around r) h = f r h
parts_all P Q f (TwoChildren around r s) h = (f r h.0, f s h.1)

-- the term that others in the place of the children make has these as children
abbrev Fills : (Tree → Type 0) → Parts → Type 0
Fills P (NoChild t) = PartsAre P (parts t)
Fills P (OneChild around r) = (x : Tree) → P x → PartsAre P (parts (around x))
Fills P (TwoChildren around r s) = (x y : Tree) → P x → P y → PartsAre P (parts (around x y))

parts-fill : (P : Tree → Type 0) (t : Tree) → Fills P (parts t)
parts-fill P (Top index r) = λ x h. h
parts-fill P (Sel fs r) = λ x h. h
parts-fill P (Proj e r) = λ x h. h
parts-fill P (Uniq r) = λ x h. h
parts-fill P (Insert r e) = λ x h. h
parts-fill P (Count r) = λ x h. h
parts-fill P (Sum r) = λ x h. h
parts-fill P (Any r) = λ x h. h
parts-fill P (Cat r s) = λ x y h g. (h, g)
parts-fill P (Join r s) = λ x y h g. (h, g)
parts-fill P (Best way v r) = λ x y h g. (h, g)
parts-fill P (Pick way v n) = λ x y h g. (h, g)
parts-fill P (Add a b) = λ x y h g. (h, g)
parts-fill P (Or a b) = λ x y h g. (h, g)
parts-fill P Nil = tt
parts-fill P (Walk j) = tt
parts-fill P (One a) = tt
parts-fill P (Single e) = tt
parts-fill P (Hold n) = tt
parts-fill P (Lit x) = tt
parts-fill P (Item e) = tt

after_none : (o : Outcome) → after_steps [] o ≡ o
after_none (Normal t steps) = refl
after_none (Meets k) = refl

module _ (atoms : List Atom) (facts : List Literal) where
  pub settled-children : (t : Tree) → IsSettled atoms facts t → ChildrenAreSettled atoms facts t
  settled-children (Top index r) h = h.1
  settled-children (Sel fs r) h = h.1
  settled-children (Proj e r) h = h.1
  settled-children (Uniq r) h = h.1
  settled-children (Insert r e) h = h.1
  settled-children (Count r) h = h.1
  settled-children (Sum r) h = h.1
  settled-children (Any r) h = h.1
  settled-children (Cat r s) h = (h.1, h.2)
  settled-children (Join r s) h = (h.1, h.2)
  settled-children (Best way v r) h = (h.1, h.2)
  settled-children (Pick way v n) h = (h.1, h.2)
  settled-children (Add a b) h = (h.1, h.2)
  settled-children (Or a b) h = (h.1, h.2)
  settled-children Nil h = tt
  settled-children (Walk j) h = tt
  settled-children (One a) h = tt
  settled-children (Single e) h = tt
  settled-children (Hold n) h = tt
  settled-children (Lit x) h = tt
  settled-children (Item e) h = tt

  settled_from : (t : Tree) → HeadIsSettled atoms facts t → ChildrenAreSettled atoms facts t → IsSettled atoms facts t
  settled_from (Top index r) h g = (h, g)
  settled_from (Sel fs r) h g = (h, g)
  settled_from (Proj e r) h g = (h, g)
  settled_from (Uniq r) h g = (h, g)
  settled_from (Insert r e) h g = (h, g)
  settled_from (Count r) h g = (h, g)
  settled_from (Sum r) h g = (h, g)
  settled_from (Any r) h g = (h, g)
  settled_from (Cat r s) h g = (h, g.0, g.1)
  settled_from (Join r s) h g = (h, g.0, g.1)
  settled_from (Best way v r) h g = (h, g.0, g.1)
  settled_from (Pick way v n) h g = (h, g.0, g.1)
  settled_from (Add a b) h g = (h, g.0, g.1)
  settled_from (Or a b) h g = (h, g.0, g.1)
  settled_from Nil h g = h
  settled_from (Walk j) h g = h
  settled_from (One a) h g = h
  settled_from (Single e) h g = h
  settled_from (Hold n) h g = h
  settled_from (Lit x) h g = h
  settled_from (Item e) h g = h

  pub settled-grandchildren : (t : Tree) → IsSettled atoms facts t → GrandchildrenAreSettled atoms facts t
  settled-grandchildren t h = parts_all (IsSettled atoms facts) (ChildrenAreSettled atoms facts) settled-children (parts t) (settled-children t h)

  -- ---- they are their own normal forms

  abbrev IsOwn : Tree → Type 0
  IsOwn t = normal_form atoms facts t ≡ Normal t []

  own_parts : (t : Tree) (p : Parts) → ArePartsOf t p → PartsAre IsOwn p → normal_parts (normal_form atoms facts) p ≡ Normal t []
  own_parts t (NoChild u) h k = ap (λ x. Normal x []) h
  own_parts t (OneChild around r) h k = ap (with_child around) k ∙ ap (λ x. Normal x []) h.0
  own_parts t (TwoChildren around r s) h k = ap₂ (with_children around) k.0 k.1 ∙ ap (λ x. Normal x []) h.0

  by_head : (t : Tree) → PartsAre IsOwn (parts t) → normal_form atoms facts t ≡ at_head atoms facts (normal_form atoms facts) t
  by_head t k =
      normal_form-made atoms facts t
      ∙ ap (then_head atoms facts (normal_form atoms facts)) (own_parts t (parts t) (parts-are t) k)
      ∙ after_none (at_head atoms facts (normal_form atoms facts) t)

  own : (t : Tree) → HeadIsSettled atoms facts t → PartsAre IsOwn (parts t) → IsOwn t
  own t h k = by_head t k ∙ sym (settled-head atoms facts t (sym h.0) (sym h.1))

  pub settled-normal : (t : Tree) → IsSettled atoms facts t → normal_form atoms facts t ≡ Normal t []
  settled-normal (Top index r) h = own (Top index r) h.0 (settled-normal r h.1)
  settled-normal (Sel fs r) h = own (Sel fs r) h.0 (settled-normal r h.1)
  settled-normal (Proj e r) h = own (Proj e r) h.0 (settled-normal r h.1)
  settled-normal (Uniq r) h = own (Uniq r) h.0 (settled-normal r h.1)
  settled-normal (Insert r e) h = own (Insert r e) h.0 (settled-normal r h.1)
  settled-normal (Count r) h = own (Count r) h.0 (settled-normal r h.1)
  settled-normal (Sum r) h = own (Sum r) h.0 (settled-normal r h.1)
  settled-normal (Any r) h = own (Any r) h.0 (settled-normal r h.1)
  settled-normal (Cat r s) h = own (Cat r s) h.0 (settled-normal r h.1, settled-normal s h.2)
  settled-normal (Join r s) h = own (Join r s) h.0 (settled-normal r h.1, settled-normal s h.2)
  settled-normal (Best way v r) h = own (Best way v r) h.0 (settled-normal v h.1, settled-normal r h.2)
  settled-normal (Pick way v n) h = own (Pick way v n) h.0 (settled-normal v h.1, settled-normal n h.2)
  settled-normal (Add a b) h = own (Add a b) h.0 (settled-normal a h.1, settled-normal b h.2)
  settled-normal (Or a b) h = own (Or a b) h.0 (settled-normal a h.1, settled-normal b h.2)
  settled-normal Nil h = own Nil h tt
  settled-normal (Walk j) h = own (Walk j) h tt
  settled-normal (One a) h = own (One a) h tt
  settled-normal (Single e) h = own (Single e) h tt
  settled-normal (Hold n) h = own (Hold n) h tt
  settled-normal (Lit x) h = own (Lit x) h tt
  settled-normal (Item e) h = own (Item e) h tt

  -- a term whose children are settled has what comes of its head
  pub head-normal : (t : Tree) → ChildrenAreSettled atoms facts t → at_head atoms facts (normal_form atoms facts) t ≡ normal_form atoms facts t
  head-normal t h = sym (by_head t (parts_all (IsSettled atoms facts) IsOwn settled-normal (parts t) h))

  -- ---- normal forms are settled

  abbrev EndsSettled : Outcome → Type 0
  EndsSettled (Normal t steps) = IsSettled atoms facts t
  EndsSettled (Meets k) = Unit {0}

  abbrev ChildrenEndSettled : Outcome → Type 0
  ChildrenEndSettled (Normal t steps) = ChildrenAreSettled atoms facts t
  ChildrenEndSettled (Meets k) = Unit {0}

  children_end : (normal : Tree → Outcome) (w : ℕ) → ((t : Tree) → weight t < w → EndsSettled (normal t)) → (p : Parts) → Fills (IsSettled atoms facts) p → AreLighter w p → ChildrenEndSettled (normal_parts normal p)
  children_end normal w h (NoChild t) fill l = fill
  children_end normal w h (OneChild around r) fill l = go (normal r) (h r l)
    where
      go : (a : Outcome) → EndsSettled a → ChildrenEndSettled (with_child around a)
      go (Normal u steps) e = fill u e
      go (Meets j) e = tt
  children_end normal w h (TwoChildren around r s) fill l = go (normal r) (normal s) (h r l.0) (h s l.1)
    where
      go : (a b : Outcome) → EndsSettled a → EndsSettled b → ChildrenEndSettled (with_children around a b)
      go (Normal u steps) (Normal v more) e g = fill u v e g
      go (Normal u steps) (Meets j) e g = tt
      go (Meets j) b e g = tt

  after_ends : (steps : List Step) (a : Outcome) → EndsSettled a → EndsSettled (after_steps steps a)
  after_ends steps (Normal t more) e = e
  after_ends steps (Meets k) e = tt

  head_ends : (normal : Tree → Outcome) (w : ℕ) → ((t : Tree) → weight t < w → EndsSettled (normal t)) → (t : Tree) → weight t ≤ w → ChildrenAreSettled atoms facts t → EndsSettled (at_head atoms facts normal t)
  head_ends normal w h t l below = go (met atoms facts t) (first_rule atoms facts t) refl refl (is_first atoms facts t)
    where
      go : (m : Option ℕ) (o : Option (ℕ × Tree)) → met atoms facts t ≡ m → first_rule atoms facts t ≡ o → IsFirst atoms facts t o → EndsSettled (unless_met m (rewritten normal t o))
      go (Some k) o d e f = tt
      go None None d e f = settled_from t (d, e) below
      go None (Some found) d e f = after_ends (record { rule = found.0; path = [] } ∷ []) (normal found.1) (h found.1 (omega (arith, f.1, l)))

  made_ends : (normal : Tree → Outcome) → ((t : Tree) → IsGood atoms facts t (normal t)) → (t : Tree) → ((u : Tree) → weight u < weight t → EndsSettled (normal u)) → EndsSettled (made atoms facts normal t)
  made_ends normal good t h = go (normal_parts normal (parts t)) (good_parts atoms facts normal good t) (children_end normal (weight t) h (parts t) (parts-fill (IsSettled atoms facts) t) (parts-lighter t))
    where
      go : (a : Outcome) → IsGood atoms facts t a → ChildrenEndSettled a → EndsSettled (then_head atoms facts normal a)
      go (Meets k) g e = tt
      go (Normal u steps) g e = after_ends steps (at_head atoms facts normal u) (head_ends normal (weight t) h u g.0 e)

  within_ends : (n : ℕ) (t : Tree) → weight t ≤ n → EndsSettled (normal_within atoms facts n t)
  within_ends zero t h = absurd (omega (arith, h, weight-two t))
  within_ends (suc n) t h = made_ends (normal_within atoms facts n) (good_within atoms facts n) t (λ u l. within_ends n u (omega (arith, l, h)))

  normal_form-settled : (t : Tree) → EndsSettled (normal_form atoms facts t)
  unfolding normal_form
  normal_form-settled t = within_ends (weight t) t (omega arith)

  -- the children that were brought to normal form
  children_settled : (t : Tree) → ChildrenEndSettled (normal_parts (normal_form atoms facts) (parts t))
  children_settled t = children_end (normal_form atoms facts) (weight t) (λ u l. normal_form-settled u) (parts t) (parts-fill (IsSettled atoms facts) t) (parts-lighter t)

  pub parts-settled : (t u : Tree) (steps : List Step) → Normal u steps ≡ normal_parts (normal_form atoms facts) (parts t) → ChildrenAreSettled atoms facts u
  parts-settled t u steps e = subst ChildrenEndSettled (sym e) (children_settled t)

  pub parts-settled_reduced : (t u : Tree) → Reduct u ≡ reduced (normal_parts (normal_form atoms facts) (parts t)) → ChildrenAreSettled atoms facts u
  parts-settled_reduced t u e = go (normal_parts (normal_form atoms facts) (parts t)) (children_settled t) e
    where
      same_reduct : (u x : Tree) → Reduct u ≡ Reduct x → u ≡ x
      same_reduct u x e = ap (λ r. elim r [ Reduct z ↦ z | Stuck k ↦ u ]) e

      go : (o : Outcome) → ChildrenEndSettled o → Reduct u ≡ reduced o → ChildrenAreSettled atoms facts u
      go (Normal x steps) h e = subst (ChildrenAreSettled atoms facts) (sym (same_reduct u x e)) h
      go (Meets k) h e = absurd cc

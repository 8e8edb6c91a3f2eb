-- No rule applies at any place in a normal form.
use Rattle.std.proofs.Common.{◌≡◌, ℕ, zero, suc, ◌+◌, ◌<◌, ◌≤◌, List, [], ◌∷◌, slice_get, refl, ap, arith}
use Rattle.std.specs.declared.option.Option.{Option}
use Rattle.std.specs.declared.option.Option.TheVariants.{Some, None}
use Rattle.tor_terms.specs.declared.term.Atom.{Atom}
use Rattle.tor_terms.specs.Plain.{Tree, Nil, Walk, Top, One, Single, Cat, Join, Sel, Proj, Uniq, Insert, Hold, Lit, Item, Count, Sum, Any, Best, Pick, Add, Or}
use Rattle.tor_axioms.specs.declared.derivation.Step.{Step}
use Rattle.tor_axioms.specs.declared.facts.Literal.{Literal}
use Rattle.tor_axioms.specs.Paths.{at_path, within, only_child, left_or_right, applied}
use Rattle.tor_axioms.specs.Rules.{Rule, rules, by_rule, at_head as rule_at_head}
use Rattle.tor_axioms.specs.Weight.{weight}
use Rattle.tor_axioms.proofs.Lower.{weight-two}
use Rattle.tor_prover.specs.Ends.{EndsNormal}
use Rattle.tor_prover.specs.Normal.{Outcome, Normal, Meets, Parts, NoChild, OneChild, TwoChildren, parts, after_steps, with_child, with_children, normal_parts, first_from, first_rule, met, unless_met, rewritten, at_head, then_head, made, normal_within, normal_form}
use Rattle.tor_prover.proofs.First.{IsFirst, is_first}
use Rattle.tor_prover.proofs.Good.{IsGood, good_parts, good_within}
use Rattle.tor_prover.proofs.Unfold.{AreLighter, parts-lighter}

-- a rule gives nothing below a term if it gives nothing in its children
abbrev Stops : Parts → Type 0
Stops (NoChild t) = (f : Rule) (k : ℕ) (p : List ℕ) → at_path f (k ∷ p) t ≡ None
Stops (OneChild around r) = (x : Tree) (f : Rule) (k : ℕ) (p : List ℕ) → at_path f p x ≡ None → at_path f (k ∷ p) (around x) ≡ None
Stops (TwoChildren around r s) = (x y : Tree) (f : Rule) (k : ℕ) (p : List ℕ) → at_path f p x ≡ None → at_path f p y ≡ None → at_path f (k ∷ p) (around x y) ≡ None

only : (around : Tree → Tree) (k : ℕ) (o : Option Tree) → o ≡ None → only_child k (within around o) ≡ None
only around zero o e = ap (within around) e
only around (suc k) o e = refl

either_side : (left right : Tree → Tree) (k : ℕ) (o p : Option Tree) → o ≡ None → p ≡ None → left_or_right k (within left o) (within right p) ≡ None
either_side left right zero o p e g = ap (within left) e
either_side left right (suc zero) o p e g = ap (within right) g
either_side left right (suc (suc k)) o p e g = refl

parts-stop : (t : Tree) → Stops (parts t)
parts-stop (Top index r) = λ x f k p e. only (Top index) k (at_path f p x) e
parts-stop (Sel fs r) = λ x f k p e. only (Sel fs) k (at_path f p x) e
parts-stop (Proj d r) = λ x f k p e. only (Proj d) k (at_path f p x) e
parts-stop (Uniq r) = λ x f k p e. only Uniq k (at_path f p x) e
parts-stop (Insert r d) = λ x f k p e. only (λ y. Insert y d) k (at_path f p x) e
parts-stop (Count r) = λ x f k p e. only Count k (at_path f p x) e
parts-stop (Sum r) = λ x f k p e. only Sum k (at_path f p x) e
parts-stop (Any r) = λ x f k p e. only Any k (at_path f p x) e
parts-stop (Cat r s) = λ x y f k p e g. either_side (λ z. Cat z y) (Cat x) k (at_path f p x) (at_path f p y) e g
parts-stop (Join r s) = λ x y f k p e g. either_side (λ z. Join z y) (Join x) k (at_path f p x) (at_path f p y) e g
parts-stop (Best way v r) = λ x y f k p e g. either_side (λ z. Best way z y) (Best way x) k (at_path f p x) (at_path f p y) e g
parts-stop (Pick way v n) = λ x y f k p e g. either_side (λ z. Pick way z y) (Pick way x) k (at_path f p x) (at_path f p y) e g
parts-stop (Add a b) = λ x y f k p e g. either_side (λ z. Add z y) (Add x) k (at_path f p x) (at_path f p y) e g
parts-stop (Or a b) = λ x y f k p e g. either_side (λ z. Or z y) (Or x) k (at_path f p x) (at_path f p y) e g
parts-stop Nil = λ f k p. refl
parts-stop (Walk j) = λ f k p. refl
parts-stop (One a) = λ f k p. refl
parts-stop (Single e) = λ f k p. refl
parts-stop (Hold n) = λ f k p. refl
parts-stop (Lit x) = λ f k p. refl
parts-stop (Item e) = λ f k p. refl

-- where no rule of a list is the first that matches, none matches
none_matches : (fs : List Rule) (k n : ℕ) (t : Tree) → first_from k fs t ≡ None → by_rule (slice_get fs n) t ≡ None
none_matches [] k n t e = refl
none_matches (f ∷ fs) k n t e = go (f t) refl e (λ i h. none_matches fs (k + 1) i t h) n
  where
    go : (o : Option Tree) → f t ≡ o → elim o as (λ _. Option (ℕ × Tree)) [ Some u ↦ Some (k, u) | None ↦ first_from (k + 1) fs t ] ≡ None
        → ((i : ℕ) → first_from (k + 1) fs t ≡ None → by_rule (slice_get fs i) t ≡ None) → (n : ℕ) → by_rule (slice_get (f ∷ fs) n) t ≡ None
    go (Some u) g e rest n = cc
    go None g e rest zero = g
    go None g e rest (suc n) = rest n e

module _ (atoms : List Atom) (facts : List Literal) where
  -- no rule applies below the head
  abbrev IsNormalBelow : Tree → Type 0
  IsNormalBelow t = (n k : ℕ) (p : List ℕ) → applied atoms facts n (k ∷ p) t ≡ None

  abbrev ChildrenEnd : Outcome → Type 0
  ChildrenEnd (Normal t steps) = IsNormalBelow t
  ChildrenEnd (Meets k) = Unit {0}

  children_end : (normal : Tree → Outcome) (w : ℕ) → ((t : Tree) → weight t < w → EndsNormal atoms facts (normal t)) → (p : Parts) → Stops p → AreLighter w p → ChildrenEnd (normal_parts normal p)
  children_end normal w h (NoChild t) stop l = λ n k p. stop (rule_at_head atoms facts n) k p
  children_end normal w h (OneChild around r) stop l = go (normal r) (h r l)
    where
      go : (a : Outcome) → EndsNormal atoms facts a → ChildrenEnd (with_child around a)
      go (Normal u steps) e = λ n k p. stop u (rule_at_head atoms facts n) k p (e n p)
      go (Meets j) e = tt
  children_end normal w h (TwoChildren around r s) stop l = go (normal r) (normal s) (h r l.0) (h s l.1)
    where
      go : (a b : Outcome) → EndsNormal atoms facts a → EndsNormal atoms facts b → ChildrenEnd (with_children around a b)
      go (Normal u steps) (Normal v more) e g = λ n k p. stop u v (rule_at_head atoms facts n) k p (e n p) (g n p)
      go (Normal u steps) (Meets j) e g = tt
      go (Meets j) b e g = tt

  no_rule : (t : Tree) → first_rule atoms facts t ≡ None → (n : ℕ) → applied atoms facts n [] t ≡ None
  no_rule t e zero = refl
  no_rule t e (suc n) = none_matches (rules atoms facts) 1 n t e

  after_ends : (steps : List Step) (a : Outcome) → EndsNormal atoms facts a → EndsNormal atoms facts (after_steps steps a)
  after_ends steps (Normal t more) e = e
  after_ends steps (Meets k) e = tt

  head_ends : (normal : Tree → Outcome) (w : ℕ) → ((t : Tree) → weight t < w → EndsNormal atoms facts (normal t)) → (t : Tree) → weight t ≤ w → IsNormalBelow t → EndsNormal atoms facts (at_head atoms facts normal t)
  head_ends normal w h t l below = go (met atoms facts t) (first_rule atoms facts t) refl (is_first atoms facts t)
    where
      whole : first_rule atoms facts t ≡ None → (n : ℕ) (p : List ℕ) → applied atoms facts n p t ≡ None
      whole e n [] = no_rule t e n
      whole e n (k ∷ p) = below n k p

      go : (m : Option ℕ) (o : Option (ℕ × Tree)) → first_rule atoms facts t ≡ o → IsFirst atoms facts t o → EndsNormal atoms facts (unless_met m (rewritten normal t o))
      go (Some k) o e f = tt
      go None None e f = whole e
      go None (Some found) e f = after_ends (record { rule = found.0; path = [] } ∷ []) (normal found.1) (h found.1 (omega (arith, f.1, l)))

  made_ends : (normal : Tree → Outcome) → ((t : Tree) → IsGood atoms facts t (normal t)) → (t : Tree) → ((u : Tree) → weight u < weight t → EndsNormal atoms facts (normal u)) → EndsNormal atoms facts (made atoms facts normal t)
  made_ends normal good t h = go (normal_parts normal (parts t)) (good_parts atoms facts normal good t) (children_end normal (weight t) h (parts t) (parts-stop t) (parts-lighter t))
    where
      go : (a : Outcome) → IsGood atoms facts t a → ChildrenEnd a → EndsNormal atoms facts (then_head atoms facts normal a)
      go (Meets k) g e = tt
      go (Normal u steps) g e = after_ends steps (at_head atoms facts normal u) (head_ends normal (weight t) h u g.0 e)

  within_ends : (n : ℕ) (t : Tree) → weight t ≤ n → EndsNormal atoms facts (normal_within atoms facts n t)
  within_ends zero t h = absurd (omega (arith, h, weight-two t))
  within_ends (suc n) t h = made_ends (normal_within atoms facts n) (good_within atoms facts n) t (λ u l. within_ends n u (omega (arith, l, h)))

  pub normal_form-ends : (t : Tree) → EndsNormal atoms facts (normal_form atoms facts t)
  unfolding normal_form
  normal_form-ends t = within_ends (weight t) t (omega arith)

-- Derivations have rules, children and atoms that there are, and at most ten splits inside one another.
use Rattle.std.proofs.Common.{ℕ, zero, suc, ◌+◌, ◌<◌, ◌≤◌, Bool, true, false, cond, List, [], ◌∷◌, ◌++◌, length, arith}
use Rattle.std.specs.List.{AllByRecursion}
use Rattle.std.specs.declared.option.Option.{Option}
use Rattle.std.specs.declared.option.Option.TheVariants.{Some, None}
use Rattle.tor_terms.specs.declared.term.Atom.{Atom}
use Rattle.tor_terms.specs.Plain.{Tree}
use Rattle.tor_terms.specs.Same.{same_tree}
use Rattle.tor_axioms.specs.declared.derivation.Step.{Step}
use Rattle.tor_axioms.specs.declared.facts.Literal.{Literal}
use Rattle.tor_axioms.specs.Accepts.{Proof, Claim}
use Rattle.tor_axioms.specs.Decide.{literal, with_fact, with_facts}
use Rattle.tor_axioms.specs.Rules.{Rule, rules}
use Rattle.tor_axioms.specs.Weight.{weight}
use Rattle.tor_prover.specs.Derive.{Same, Differ, judge, split_at, concluded, derived, derivation_of}
use Rattle.tor_prover.specs.Normal.{Outcome, Normal, Meets, Parts, NoChild, OneChild, TwoChildren, parts, below, after_steps, with_child, with_children, normal_parts, first_from, first_rule, met, unless_met, rewritten, at_head, then_head, made, normal_within, normal_form}
use Rattle.tor_prover.specs.Shape.{IsStepOfRules, IfNested}
use Rattle.tor_prover.proofs.Good.{IsGood}
use Rattle.tor_prover.proofs.Unfold.{normal_form-good}

abbrev AreOfRules : Outcome → Type 0
AreOfRules (Normal t steps) = AllByRecursion IsStepOfRules steps
AreOfRules (Meets k) = Unit {0}

all-append : (steps more : List Step) → AllByRecursion IsStepOfRules steps → AllByRecursion IsStepOfRules more → AllByRecursion IsStepOfRules (steps ++ more)
all-append [] more h g = g
all-append (s ∷ steps) more h g = (h.0, all-append steps more h.1 g)

all-below : (k : ℕ) (steps : List Step) → k ≤ 1 → AllByRecursion IsStepOfRules steps → AllByRecursion IsStepOfRules (below k steps)
all-below k [] l h = tt
all-below k (s ∷ steps) l h = ((h.0.0, (l, h.0.1)), all-below k steps l h.1)

after-of_rules : (steps : List Step) (a : Outcome) → AllByRecursion IsStepOfRules steps → AreOfRules a → AreOfRules (after_steps steps a)
after-of_rules steps (Normal t more) h g = all-append steps more h g
after-of_rules steps (Meets k) h g = tt

-- the number of a rule that is found
abbrev IsNumbered : ℕ → Option (ℕ × Tree) → Type 0
IsNumbered n None = Unit {0}
IsNumbered n (Some found) = found.0 < n

first-numbered : (fs : List Rule) (k n : ℕ) (t : Tree) → k + length fs ≤ n → IsNumbered n (first_from k fs t)
first-numbered [] k n t l = tt
first-numbered (f ∷ fs) k n t l = go (f t) (first-numbered fs (k + 1) n t (omega (arith, l)))
  where
    go : (o : Option Tree) → IsNumbered n (first_from (k + 1) fs t) → IsNumbered n (elim o [ Some u ↦ Some (k, u) | None ↦ first_from (k + 1) fs t ])
    go None h = h
    go (Some u) h = omega (arith, l)

module _ (atoms : List Atom) (facts : List Literal) where
  parts-of_rules : (normal : Tree → Outcome) → ((t : Tree) → AreOfRules (normal t)) → (p : Parts) → AreOfRules (normal_parts normal p)
  parts-of_rules normal h (NoChild t) = tt
  parts-of_rules normal h (OneChild around r) = go (normal r) (h r)
    where
      go : (a : Outcome) → AreOfRules a → AreOfRules (with_child around a)
      go (Normal u steps) g = all-below 0 steps (omega arith) g
      go (Meets k) g = tt
  parts-of_rules normal h (TwoChildren around r s) = go (normal r) (normal s) (h r) (h s)
    where
      go : (a b : Outcome) → AreOfRules a → AreOfRules b → AreOfRules (with_children around a b)
      go (Normal u steps) (Normal v more) g i = all-append (below 0 steps) (below 1 more) (all-below 0 steps (omega arith) g) (all-below 1 more (omega arith) i)
      go (Normal u steps) (Meets k) g i = tt
      go (Meets k) b g i = tt

  head-of_rules : (normal : Tree → Outcome) → ((t : Tree) → AreOfRules (normal t)) → (t : Tree) → AreOfRules (at_head atoms facts normal t)
  head-of_rules normal h t = go (met atoms facts t) (first_rule atoms facts t) (first-numbered (rules atoms facts) 1 45 t (omega arith))
    where
      go : (m : Option ℕ) (o : Option (ℕ × Tree)) → IsNumbered 45 o → AreOfRules (unless_met m (rewritten normal t o))
      go (Some k) o l = tt
      go None None l = tt
      go None (Some found) l = after-of_rules (record { rule = found.0; path = [] } ∷ []) (normal found.1) ((omega (arith, l), tt), tt) (h found.1)

  made-of_rules : (normal : Tree → Outcome) → ((t : Tree) → AreOfRules (normal t)) → (t : Tree) → AreOfRules (made atoms facts normal t)
  made-of_rules normal h t = go (normal_parts normal (parts t)) (parts-of_rules normal h (parts t))
    where
      go : (a : Outcome) → AreOfRules a → AreOfRules (then_head atoms facts normal a)
      go (Normal u steps) g = after-of_rules steps (at_head atoms facts normal u) g (head-of_rules normal h u)
      go (Meets k) g = tt

  within-of_rules : (n : ℕ) (t : Tree) → AreOfRules (normal_within atoms facts n t)
  within-of_rules zero t = tt
  within-of_rules (suc n) t = made-of_rules (normal_within atoms facts n) (within-of_rules n) t

  pub normal_form-of_rules : (t : Tree) → AreOfRules (normal_form atoms facts t)
  unfolding normal_form
  normal_form-of_rules t = within-of_rules (weight t) t

module _ (atoms : List Atom) where
  judged-nested : (facts : List Literal) (room : ℕ) (l r : Tree) (a b : Outcome) (split : ℕ → Option Proof) → IsGood atoms facts l a → IsGood atoms facts r b → AreOfRules a → AreOfRules b
      → ((k : ℕ) → k < length atoms → IfNested atoms room (split k)) → IfNested atoms room (concluded (judge a b) split)
  judged-nested facts room l r (Meets k) b split g h i j s = s k g
  judged-nested facts room l r (Normal t steps) (Meets k) split g h i j s = s k h
  judged-nested facts room l r (Normal t steps) (Normal u more) split g h i j s = go (same_tree t u)
    where
      go : (e : Bool) → IfNested atoms room (concluded (cond e (Same steps more) Differ) split)
      go true = (i, j)
      go false = tt

  split-nested : (room k : ℕ) (o p : Option Proof) → k < length atoms → IfNested atoms room o → IfNested atoms room p → IfNested atoms (suc room) (split_at k o p)
  split-nested room k None p h g i = tt
  split-nested room k (Some y) None h g i = tt
  split-nested room k (Some y) (Some n) h g i = (h, g, i)

  derived-nested : (depth : ℕ) (facts : Option (List Literal)) (l r : Tree) → IfNested atoms depth (derived atoms depth facts l r)
  derived-nested depth None l r = tt
  derived-nested zero (Some facts) l r =
      judged-nested facts zero l r (normal_form atoms facts l) (normal_form atoms facts r) _ (normal_form-good atoms facts l) (normal_form-good atoms facts r) (normal_form-of_rules atoms facts l) (normal_form-of_rules atoms facts r) (λ k h. tt)
  derived-nested (suc depth) (Some facts) l r =
      judged-nested facts (suc depth) l r (normal_form atoms facts l) (normal_form atoms facts r) _ (normal_form-good atoms facts l) (normal_form-good atoms facts r) (normal_form-of_rules atoms facts l) (normal_form-of_rules atoms facts r) (λ k h.
      split-nested depth k _ _ h (derived-nested depth (with_fact atoms facts (literal k true)) l r) (derived-nested depth (with_fact atoms facts (literal k false)) l r))

pub derivation-nested : (c : Claim) → IfNested c.atoms 10 (derivation_of c)
unfolding derivation_of
derivation-nested c = derived-nested c.atoms 10 (with_facts c.atoms [] c.facts) c.left c.right

-- What is derived is accepted.
use Rattle.std.proofs.Common.{◌≡◌, ℕ, zero, suc, ◌<◌, Bool, true, false, cond, ◌&&◌, List, [], length, refl, ap₂, ◌∙◌, subst, lt-ltb}
use Rattle.std.specs.declared.option.Option.{Option}
use Rattle.std.specs.declared.option.Option.TheVariants.{Some, None}
use Rattle.tor_terms.specs.declared.term.Atom.{Atom}
use Rattle.tor_terms.specs.Plain.{Tree}
use Rattle.tor_terms.specs.Same.{same_tree}
use Rattle.tor_axioms.specs.declared.facts.Literal.{Literal}
use Rattle.tor_axioms.specs.Accepts.{Proof, same_ends, accepted, Claim, accepts}
use Rattle.tor_axioms.specs.Decide.{literal, with_fact, with_facts}
use Rattle.tor_prover.specs.Normal.{Outcome, Normal, Meets, normal_form}
use Rattle.tor_prover.specs.Derive.{Same, Differ, judge, split_at, concluded, derived, derivation_of}
use Rattle.tor_prover.proofs.Good.{IsGood}
use Rattle.tor_prover.proofs.Unfold.{normal_form-good}

module _ (atoms : List Atom) where
  abbrev IsAccepted : Option (List Literal) → Tree → Tree → Option Proof → Type 0
  IsAccepted facts l r None = Unit {0}
  IsAccepted facts l r (Some p) = accepted atoms facts p l r ≡ true

  judged-accepted : (facts : List Literal) (l r : Tree) (a b : Outcome) (split : ℕ → Option Proof) → IsGood atoms facts l a → IsGood atoms facts r b
      → ((k : ℕ) → k < length atoms → IsAccepted (Some facts) l r (split k)) → IsAccepted (Some facts) l r (concluded (judge a b) split)
  judged-accepted facts l r (Meets k) b split g h s = s k g
  judged-accepted facts l r (Normal t steps) (Meets k) split g h s = s k h
  judged-accepted facts l r (Normal t steps) (Normal u more) split g h s = go (same_tree t u) refl
    where
      go : (e : Bool) → same_tree t u ≡ e → IsAccepted (Some facts) l r (concluded (cond e (Same steps more) Differ) split)
      go true e = ap₂ same_ends g.1 h.1 ∙ e
      go false e = tt

  split-accepted : (facts : List Literal) (l r : Tree) (k : ℕ) (o p : Option Proof) → k < length atoms → IsAccepted (with_fact atoms facts (literal k true)) l r o → IsAccepted (with_fact atoms facts (literal k false)) l r p
      → IsAccepted (Some facts) l r (split_at k o p)
  split-accepted facts l r k None p h g i = tt
  split-accepted facts l r k (Some y) None h g i = tt
  split-accepted facts l r k (Some y) (Some n) h g i = ap₂ (λ x y. x && y) (lt-ltb k (length atoms) h) (ap₂ (λ x y. x && y) g i)

  derived-accepted : (depth : ℕ) (facts : Option (List Literal)) (l r : Tree) → IsAccepted facts l r (derived atoms depth facts l r)
  derived-accepted depth None l r = refl
  derived-accepted zero (Some facts) l r =
      judged-accepted facts l r (normal_form atoms facts l) (normal_form atoms facts r) _ (normal_form-good atoms facts l) (normal_form-good atoms facts r) (λ k h. tt)
  derived-accepted (suc depth) (Some facts) l r =
      judged-accepted facts l r (normal_form atoms facts l) (normal_form atoms facts r) _ (normal_form-good atoms facts l) (normal_form-good atoms facts r) (λ k h.
      split-accepted facts l r k _ _ h (derived-accepted depth (with_fact atoms facts (literal k true)) l r) (derived-accepted depth (with_fact atoms facts (literal k false)) l r))

pub derivation-accepted : (c : Claim) (p : Proof) → derivation_of c ≡ Some p → accepts c p ≡ true
unfolding derivation_of
derivation-accepted c p e = subst (IsAccepted c.atoms (with_facts c.atoms [] c.facts) c.left c.right) e (derived-accepted c.atoms 10 (with_facts c.atoms [] c.facts) c.left c.right)

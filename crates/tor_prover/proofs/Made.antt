-- What the normaliser's calls give, about plain trees.
use Rattle.std.proofs.Common.{◌≡◌, ℕ, ◌+◌, ◌*◌, ◌<◌, ◌≤◌, max, List, [], sym, ap, ◌∙◌, subst, arith}
use Rattle.std.specs.declared.option.Option.TheVariants.{Some, None}
use Rattle.tor_terms.specs.declared.term.Atom.{Atom}
use Rattle.tor_terms.specs.Plain.{Tree}
use Rattle.tor_axioms.specs.declared.derivation.Step.{Step}
use Rattle.tor_axioms.specs.declared.facts.Literal.{Literal}
use Rattle.tor_axioms.specs.Weight.{weight}
use Rattle.tor_prover.specs.Normal.{Outcome, Normal, Meets, Parts, NoChild, OneChild, TwoChildren, parts, after_steps, normal_parts, first_rule, met, unless_met, step_at_head, rewritten, at_head, then_head, normal_form}
use Rattle.tor_prover.proofs.First.{IsFirst, is_first}
use Rattle.tor_prover.proofs.Good.{IsGood, good_parts}
use Rattle.tor_prover.proofs.Unfold.{AreLighter, parts-lighter, normal_form-made, normal_form-good}

-- what is left to do in the parts of a term
abbrev pub room : Parts → ℕ
room (NoChild t) = 0
room (OneChild around r) = 3 * weight r + 3
room (TwoChildren around r s) = 3 * max (weight r) (weight s) + 3

pub room-less : (t : Tree) → room (parts t) < 3 * weight t + 2
room-less t = go (parts t) (parts-lighter t)
  where
    go : (p : Parts) → AreLighter (weight t) p → room p < 3 * weight t + 2
    go (NoChild u) l = omega arith
    go (OneChild around r) l = omega (arith, l)
    go (TwoChildren around r s) l = omega (arith, l.0, l.1)

module _ (atoms : List Atom) (facts : List Literal) (t : Tree) where
  pub first_lighter : (n : ℕ) (u : Tree) → Some (n, u) ≡ first_rule atoms facts t → weight u < weight t
  first_lighter n u e = (subst (IsFirst atoms facts t) (sym e) (is_first atoms facts t)).1

  pub children_lighter : (u : Tree) (steps : List Step) → Normal u steps ≡ normal_parts (normal_form atoms facts) (parts t) → weight u ≤ weight t
  children_lighter u steps e = (subst (IsGood atoms facts t) (sym e) (good_parts atoms facts (normal_form atoms facts) (normal_form-good atoms facts) t)).0

  pub meets-normal : (k : ℕ) → Meets k ≡ normal_parts (normal_form atoms facts) (parts t) → Meets k ≡ normal_form atoms facts t
  meets-normal k e = ap (then_head atoms facts (normal_form atoms facts)) e ∙ sym (normal_form-made atoms facts t)

  pub finished-normal : (u : Tree) (steps : List Step) (rest : Outcome) → Normal u steps ≡ normal_parts (normal_form atoms facts) (parts t) → rest ≡ at_head atoms facts (normal_form atoms facts) u → after_steps steps rest ≡ normal_form atoms facts t
  finished-normal u steps rest e h = ap (after_steps steps) h ∙ ap (then_head atoms facts (normal_form atoms facts)) e ∙ sym (normal_form-made atoms facts t)

  pub settled-head : None ≡ met atoms facts t → None ≡ first_rule atoms facts t → Normal t [] ≡ at_head atoms facts (normal_form atoms facts) t
  settled-head d e = ap (rewritten (normal_form atoms facts) t) e ∙ ap (λ m. unless_met m (rewritten (normal_form atoms facts) t (first_rule atoms facts t))) d

  pub rewritten-head : (n : ℕ) (u : Tree) (rest : Outcome) → None ≡ met atoms facts t → Some (n, u) ≡ first_rule atoms facts t → rest ≡ normal_form atoms facts u
      → after_steps (step_at_head n) rest ≡ at_head atoms facts (normal_form atoms facts) t
  rewritten-head n u rest d e h =
      ap (after_steps (step_at_head n)) h ∙ ap (rewritten (normal_form atoms facts) t) e ∙ ap (λ m. unless_met m (rewritten (normal_form atoms facts) t (first_rule atoms facts t))) d

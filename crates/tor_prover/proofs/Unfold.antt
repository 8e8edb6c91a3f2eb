-- The normal form of a term is made of the normal forms of lighter terms, with no bound.
use Rattle.std.proofs.Common.{◌≡◌, ℕ, zero, suc, ◌<◌, ◌≤◌, List, [], ◌∷◌, refl, ap, ap₂, ◌∙◌, subst, arith}
use Rattle.std.specs.declared.option.Option.{Option}
use Rattle.std.specs.declared.option.Option.TheVariants.{Some, None}
use Rattle.tor_terms.specs.declared.term.Atom.{Atom}
use Rattle.tor_terms.specs.Plain.{Tree}
use Rattle.tor_axioms.specs.declared.facts.Literal.{Literal}
use Rattle.tor_axioms.specs.Weight.{weight}
use Rattle.tor_axioms.proofs.Lower.{weight-two}
use Rattle.tor_prover.specs.Normal.{Outcome, Normal, Meets, Parts, NoChild, OneChild, TwoChildren, parts, after_steps, with_child, with_children, normal_parts, first_rule, met, unless_met, rewritten, at_head, then_head, made, normal_within, normal_form}
use Rattle.tor_prover.proofs.First.{IsFirst, is_first}
use Rattle.tor_prover.proofs.Good.{IsGood, good_parts, good_within}
use Rattle.tor_prover.proofs.Positions.{ArePartsOf, parts-are}

-- each child is lighter
abbrev pub AreLighter : ℕ → Parts → Type 0
AreLighter w (NoChild t) = Unit {0}
AreLighter w (OneChild around r) = weight r < w
AreLighter w (TwoChildren around r s) = (weight r < w) × (weight s < w)

pub parts-lighter : (t : Tree) → AreLighter (weight t) (parts t)
parts-lighter t = go (parts t) (parts-are t)
  where
    go : (p : Parts) → ArePartsOf t p → AreLighter (weight t) p
    go (NoChild u) h = tt
    go (OneChild around r) h = subst (λ x. weight r < weight x) h.0 (h.1.smaller r)
    go (TwoChildren around r s) h = (subst (λ x. weight r < weight x) h.0 ((h.1 s).smaller r), subst (λ x. weight s < weight x) h.0 ((h.2 r).smaller s))

module _ (atoms : List Atom) (facts : List Literal) where
  -- two functions that give the same below a weight
  abbrev AreAlike : ℕ → (Tree → Outcome) → (Tree → Outcome) → Type 0
  AreAlike w f g = (u : Tree) → weight u < w → f u ≡ g u

  head_alike : (f g : Tree → Outcome) (t : Tree) → AreAlike (weight t) f g → at_head atoms facts f t ≡ at_head atoms facts g t
  head_alike f g t h = ap (unless_met (met atoms facts t)) (same (first_rule atoms facts t) (is_first atoms facts t))
    where
      same : (o : Option (ℕ × Tree)) → IsFirst atoms facts t o → rewritten f t o ≡ rewritten g t o
      same None k = refl
      same (Some found) k = ap (after_steps (record { rule = found.0; path = [] } ∷ [])) (h found.1 k.1)

  parts_alike : (f g : Tree → Outcome) (w : ℕ) → AreAlike w f g → (p : Parts) → AreLighter w p → normal_parts f p ≡ normal_parts g p
  parts_alike f g w h (NoChild t) l = refl
  parts_alike f g w h (OneChild around r) l = ap (with_child around) (h r l)
  parts_alike f g w h (TwoChildren around r s) l = ap₂ (with_children around) (h r l.0) (h s l.1)

  made_alike : (f g : Tree → Outcome) → ((t : Tree) → IsGood atoms facts t (f t)) → (t : Tree) → AreAlike (weight t) f g → made atoms facts f t ≡ made atoms facts g t
  made_alike f g good t h = go (normal_parts f (parts t)) (good_parts atoms facts f good t) ∙ ap (then_head atoms facts g) (parts_alike f g (weight t) h (parts t) (parts-lighter t))
    where
      go : (outcome : Outcome) → IsGood atoms facts t outcome → then_head atoms facts f outcome ≡ then_head atoms facts g outcome
      go (Meets k) x = refl
      go (Normal u steps) x = ap (after_steps steps) (head_alike f g u (λ v l. h v (omega (arith, l, x.0))))

  -- a bound of at least the weight makes no difference
  enough : (n m : ℕ) (t : Tree) → weight t ≤ n → weight t ≤ m → normal_within atoms facts n t ≡ normal_within atoms facts m t
  enough zero m t h g = absurd (omega (arith, h, weight-two t))
  enough (suc n) zero t h g = absurd (omega (arith, g, weight-two t))
  enough (suc n) (suc m) t h g =
      made_alike (normal_within atoms facts n) (normal_within atoms facts m) (good_within atoms facts n) t (λ u l. enough n m u (omega (arith, l, h)) (omega (arith, l, g)))

  pub normal_form-made : (t : Tree) → normal_form atoms facts t ≡ made atoms facts (normal_form atoms facts) t
  unfolding normal_form
  normal_form-made t = go (weight t) refl
    where
      go : (k : ℕ) → weight t ≡ k → normal_within atoms facts k t ≡ made atoms facts (normal_form atoms facts) t
      go zero e = absurd (omega (arith, e, weight-two t))
      go (suc k) e = made_alike (normal_within atoms facts k) (normal_form atoms facts) (good_within atoms facts k) t (λ u l. enough k (weight u) u (omega (arith, l, e)) (omega arith))

  pub normal_form-good : (t : Tree) → IsGood atoms facts t (normal_form atoms facts t)
  unfolding normal_form
  normal_form-good t = good_within atoms facts (weight t) t

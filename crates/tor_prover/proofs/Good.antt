-- The steps of a normal form lead to it, it is no heavier than the term, and an atom that is met is there.
use Rattle.std.proofs.Common.{◌≡◌, ℕ, zero, suc, ◌<◌, ◌≤◌, List, [], ◌∷◌, ◌++◌, length, refl, ap, ◌∙◌, subst, arith, le_refl}
use Rattle.std.specs.declared.option.Option.{Option}
use Rattle.std.specs.declared.option.Option.TheVariants.{Some, None}
use Rattle.tor_terms.specs.declared.term.Atom.{Atom}
use Rattle.tor_terms.specs.Plain.{Tree}
use Rattle.tor_axioms.specs.declared.derivation.Step.{Step}
use Rattle.tor_axioms.specs.declared.facts.Literal.{Literal}
use Rattle.tor_axioms.specs.Paths.{applied, on_tree, run, within}
use Rattle.tor_axioms.specs.Rules.{at_head as rule_at_head}
use Rattle.tor_axioms.specs.Weight.{weight}
use Rattle.tor_prover.specs.Normal.{Outcome, Normal, Meets, Parts, NoChild, OneChild, TwoChildren, parts, below, after_steps, with_child, with_children, normal_parts, first_rule, met, unless_met, rewritten, at_head, then_head, made, normal_within}
use Rattle.tor_prover.proofs.First.{IsFirst, is_first}
use Rattle.tor_prover.proofs.OpenAtom.{IsBelow, met-below}
use Rattle.tor_prover.proofs.Positions.{IsPlace, ArePartsOf, parts-are}

module _ (atoms : List Atom) (facts : List Literal) where
  -- what holds of an outcome for a term
  abbrev pub IsGood : Tree → Outcome → Type 0
  IsGood t (Normal u steps) = (weight u ≤ weight t) × (run atoms facts steps t ≡ Some u)
  IsGood t (Meets k) = k < length atoms

  run_then : (steps more : List Step) (t : Tree) → run atoms facts (steps ++ more) t ≡ on_tree (run atoms facts steps t) (run atoms facts more)
  run_then [] more t = refl
  run_then (s ∷ steps) more t = go (applied atoms facts s.rule s.path t) (λ u. run_then steps more u)
    where
      go : (o : Option Tree) → ((u : Tree) → run atoms facts (steps ++ more) u ≡ on_tree (run atoms facts steps u) (run atoms facts more))
          → on_tree o (run atoms facts (steps ++ more)) ≡ on_tree (on_tree o (run atoms facts steps)) (run atoms facts more)
      go None h = refl
      go (Some u) h = h u

  good_after : (t u : Tree) (steps : List Step) (outcome : Outcome) → weight u ≤ weight t → run atoms facts steps t ≡ Some u → IsGood u outcome → IsGood t (after_steps steps outcome)
  good_after t u steps (Normal x more) w r g = (omega (arith, w, g.0), run_then steps more t ∙ ap (λ o. on_tree o (run atoms facts more)) r ∙ g.1)
  good_after t u steps (Meets k) w r g = g

  run_below : (k : ℕ) (around : Tree → Tree) → IsPlace k around → (steps : List Step) (r u : Tree) → run atoms facts steps r ≡ Some u → run atoms facts (below k steps) (around r) ≡ Some (around u)
  run_below k around h [] r u e = ap (λ o. on_tree o (λ t. Some (around t))) e
  run_below k around h (s ∷ steps) r u e =
      ap (λ o. on_tree o (run atoms facts (below k steps))) (h.inside (rule_at_head atoms facts s.rule) s.path r) ∙ go (applied atoms facts s.rule s.path r) e (λ x. run_below k around h steps x u)
    where
      go : (o : Option Tree) → on_tree o (run atoms facts steps) ≡ Some u → ((x : Tree) → run atoms facts steps x ≡ Some u → run atoms facts (below k steps) (around x) ≡ Some (around u))
          → on_tree (within around o) (run atoms facts (below k steps)) ≡ Some (around u)
      go None e rest = cc
      go (Some x) e rest = rest x e

  good_child : (around : Tree → Tree) → IsPlace 0 around → (r : Tree) (outcome : Outcome) → IsGood r outcome → IsGood (around r) (with_child around outcome)
  good_child around h r (Meets k) g = g
  good_child around h r (Normal u steps) g = (h.light r u g.0, run_below 0 around h steps r u g.1)

  good_children : (around : Tree → Tree → Tree) → ((x : Tree) → IsPlace 0 (λ y. around y x)) → ((x : Tree) → IsPlace 1 (around x)) → (r s : Tree) (a b : Outcome) → IsGood r a → IsGood s b → IsGood (around r s) (with_children around a b)
  good_children around h i r s (Meets k) b g j = g
  good_children around h i r s (Normal u steps) (Meets k) g j = j
  good_children around h i r s (Normal u steps) (Normal v more) g j =
      let first = (h s).light r u g.0 in
      let second = (i u).light s v j.0 in (
        omega (arith, first, second),
        run_then (below 0 steps) (below 1 more) (around r s) ∙ ap (λ o. on_tree o (run atoms facts (below 1 more))) (run_below 0 (λ y. around y s) (h s) steps r u g.1) ∙ run_below 1 (around u) (i u) more s v j.1,
      )

  pub good_parts : (normal : Tree → Outcome) → ((t : Tree) → IsGood t (normal t)) → (t : Tree) → IsGood t (normal_parts normal (parts t))
  good_parts normal g t = go (parts t) (parts-are t)
    where
      go : (p : Parts) → ArePartsOf t p → IsGood t (normal_parts normal p)
      go (NoChild u) h = subst (λ x. IsGood x (Normal u [])) h (le_refl (weight u), refl)
      go (OneChild around r) h = subst (λ x. IsGood x (normal_parts normal (OneChild around r))) h.0 (good_child around h.1 r (normal r) (g r))
      go (TwoChildren around r s) h =
          subst (λ x. IsGood x (normal_parts normal (TwoChildren around r s))) h.0 (good_children around h.1 h.2 r s (normal r) (normal s) (g r) (g s))

  good_head : (normal : Tree → Outcome) → ((t : Tree) → IsGood t (normal t)) → (t : Tree) → IsGood t (at_head atoms facts normal t)
  good_head normal g t = go (met atoms facts t) (met-below atoms facts t) (first_rule atoms facts t) (is_first atoms facts t)
    where
      go : (m : Option ℕ) → IsBelow (length atoms) m → (o : Option (ℕ × Tree)) → IsFirst atoms facts t o → IsGood t (unless_met m (rewritten normal t o))
      go (Some k) h o f = h
      go None h None f = (le_refl (weight t), refl)
      go None h (Some found) f =
          good_after t found.1 (record { rule = found.0; path = [] } ∷ []) (normal found.1) (omega (arith, f.1)) (ap (λ o. on_tree o (λ t. Some t)) f.0) (g found.1)

  good_made : (normal : Tree → Outcome) → ((t : Tree) → IsGood t (normal t)) → (t : Tree) → IsGood t (made atoms facts normal t)
  good_made normal g t = go (normal_parts normal (parts t)) (good_parts normal g t)
    where
      go : (outcome : Outcome) → IsGood t outcome → IsGood t (then_head atoms facts normal outcome)
      go (Meets k) h = h
      go (Normal u steps) h = good_after t u steps (at_head atoms facts normal u) h.0 h.1 (good_head normal g u)

  pub good_within : (n : ℕ) (t : Tree) → IsGood t (normal_within atoms facts n t)
  good_within zero t = (le_refl (weight t), refl)
  good_within (suc n) t = good_made (normal_within atoms facts n) (good_within n) t

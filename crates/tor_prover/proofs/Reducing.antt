-- Normal forms without steps, and what is derived by them.
use Rattle.std.proofs.Common.{◌≡◌, ℕ, zero, suc, ◌-◌, ◌≤◌, Bool, true, false, cond, ◌&&◌, List, [], refl, sym, ap, ap₂, ◌∙◌, subst, arith, is_some}
use Rattle.std.specs.declared.option.Option.{Option}
use Rattle.std.specs.declared.option.Option.TheVariants.{Some, None}
use Rattle.tor_terms.specs.declared.term.Atom.{Atom}
use Rattle.tor_terms.specs.Plain.{Tree}
use Rattle.tor_terms.specs.Same.{same_tree}
use Rattle.tor_axioms.specs.declared.derivation.Step.{Step}
use Rattle.tor_axioms.specs.declared.facts.Literal.{Literal}
use Rattle.tor_axioms.specs.Accepts.{Proof, Claim}
use Rattle.tor_axioms.specs.Decide.{literal, with_fact, with_facts}
use Rattle.tor_axioms.specs.Weight.{weight}
use Rattle.tor_prover.specs.Derive.{Judgement, Same, Differ, Splits, judge, judged, split_at, concluded, derived, derivation_of}
use Rattle.tor_prover.specs.Normal.{Outcome, Normal, Meets, parts, after_steps, with_child, with_children, normal_parts, first_rule, met, unless_met, step_at_head, rewritten, at_head, then_head, normal_form}
use Rattle.tor_prover.specs.Reduced.{Reduced, Reduct, Stuck, reduced, around_child, around_children, Verdict, Alike, Unlike, Open, verdict_of, compared}
use Rattle.tor_prover.proofs.Good.{IsGood, good_parts}
use Rattle.tor_prover.proofs.Unfold.{normal_form-made, normal_form-good}

pub reduced-child : (around : Tree → Tree) (o : Outcome) → around_child around (reduced o) ≡ reduced (with_child around o)
reduced-child around (Normal t steps) = refl
reduced-child around (Meets k) = refl

pub reduced-children : (around : Tree → Tree → Tree) (o p : Outcome) → around_children around (reduced o) (reduced p) ≡ reduced (with_children around o p)
reduced-children around (Normal t steps) (Normal u more) = refl
reduced-children around (Normal t steps) (Meets k) = refl
reduced-children around (Meets k) p = refl

-- the first child is stuck
pub stuck-children : (around : Tree → Tree → Tree) (k : ℕ) (o p : Outcome) → Stuck k ≡ reduced o → Stuck k ≡ reduced (with_children around o p)
stuck-children around k (Normal t steps) p e = absurd cc
stuck-children around k (Meets j) p e = e

reduced-after : (steps : List Step) (o : Outcome) → reduced (after_steps steps o) ≡ reduced o
reduced-after steps (Normal t more) = refl
reduced-after steps (Meets k) = refl

module _ (atoms : List Atom) (facts : List Literal) (t : Tree) where
  reduct-lighter : (u : Tree) (o : Outcome) → IsGood atoms facts t o → Reduct u ≡ reduced o → weight u ≤ weight t
  reduct-lighter u (Normal x steps) g e = subst (λ z. weight z ≤ weight t) (sym (same_reduct u x e)) g.0
    where
      same_reduct : (u x : Tree) → Reduct u ≡ Reduct x → u ≡ x
      same_reduct u x e = ap (λ r. elim r [ Reduct z ↦ z | Stuck k ↦ u ]) e
  reduct-lighter u (Meets k) g e = absurd cc

  pub children_lighter : (u : Tree) → Reduct u ≡ reduced (normal_parts (normal_form atoms facts) (parts t)) → weight u ≤ weight t
  children_lighter u e = reduct-lighter u (normal_parts (normal_form atoms facts) (parts t)) (good_parts atoms facts (normal_form atoms facts) (normal_form-good atoms facts) t) e

  stuck-then : (k : ℕ) (o : Outcome) → Stuck k ≡ reduced o → Stuck k ≡ reduced (then_head atoms facts (normal_form atoms facts) o)
  stuck-then k (Normal u steps) e = absurd cc
  stuck-then k (Meets j) e = e

  pub stuck-normal : (k : ℕ) → Stuck k ≡ reduced (normal_parts (normal_form atoms facts) (parts t)) → Stuck k ≡ reduced (normal_form atoms facts t)
  stuck-normal k e = stuck-then k (normal_parts (normal_form atoms facts) (parts t)) e ∙ ap reduced (sym (normal_form-made atoms facts t))

  reduct-then : (u : Tree) (o : Outcome) → Reduct u ≡ reduced o → reduced (at_head atoms facts (normal_form atoms facts) u) ≡ reduced (then_head atoms facts (normal_form atoms facts) o)
  reduct-then u (Normal x steps) e =
      ap (λ z. reduced (at_head atoms facts (normal_form atoms facts) z)) (same_reduct u x e) ∙ sym (reduced-after steps (at_head atoms facts (normal_form atoms facts) x))
    where
      same_reduct : (u x : Tree) → Reduct u ≡ Reduct x → u ≡ x
      same_reduct u x e = ap (λ r. elim r [ Reduct z ↦ z | Stuck k ↦ u ]) e
  reduct-then u (Meets k) e = absurd cc

  pub reduct-normal : (u : Tree) → Reduct u ≡ reduced (normal_parts (normal_form atoms facts) (parts t)) → reduced (at_head atoms facts (normal_form atoms facts) u) ≡ reduced (normal_form atoms facts t)
  reduct-normal u e = reduct-then u (normal_parts (normal_form atoms facts) (parts t)) e ∙ ap reduced (sym (normal_form-made atoms facts t))

  pub rewritten-reduced : (n : ℕ) (u : Tree) → None ≡ met atoms facts t → Some (n, u) ≡ first_rule atoms facts t → reduced (normal_form atoms facts u) ≡ reduced (at_head atoms facts (normal_form atoms facts) t)
  rewritten-reduced n u d e =
      sym (reduced-after (step_at_head n) (normal_form atoms facts u)) ∙ ap (λ o. reduced (rewritten (normal_form atoms facts) t o)) e ∙ ap (λ m. reduced (unless_met m (rewritten (normal_form atoms facts) t (first_rule atoms facts t)))) d

verdict-judge : (o p : Outcome) → verdict_of (judge o p) ≡ compared (reduced o) (reduced p)
verdict-judge (Meets k) p = refl
verdict-judge (Normal t steps) (Meets k) = refl
verdict-judge (Normal t steps) (Normal u more) = go (same_tree t u)
  where
    go : (b : Bool) → verdict_of (cond b (Same steps more) Differ) ≡ cond b Alike Unlike
    go true = refl
    go false = refl

module _ (atoms : List Atom) (facts : List Literal) (l r : Tree) where
  -- what both normal forms show
  pub verdict-compared : (a b : Reduced) → a ≡ reduced (normal_form atoms facts l) → b ≡ reduced (normal_form atoms facts r) → compared a b ≡ verdict_of (judged atoms facts l r)
  verdict-compared a b e h = ap₂ compared e h ∙ sym (verdict-judge (normal_form atoms facts l) (normal_form atoms facts r))

  pub verdict-stuck : (k : ℕ) → Stuck k ≡ reduced (normal_form atoms facts l) → Open k ≡ verdict_of (judged atoms facts l r)
  verdict-stuck k e = verdict-compared (Stuck k) (reduced (normal_form atoms facts r)) e refl

abbrev by_verdict : Verdict → (ℕ → Bool) → Bool
by_verdict Alike split = true
by_verdict Unlike split = false
by_verdict (Open k) split = split k

some-concluded : (j : Judgement) (split : ℕ → Option Proof) → is_some (concluded j split) ≡ by_verdict (verdict_of j) (λ k. is_some (split k))
some-concluded (Same steps more) split = refl
some-concluded Differ split = refl
some-concluded (Splits k) split = refl

some-split : (k : ℕ) (o p : Option Proof) → is_some (split_at k o p) ≡ (is_some o && is_some p)
some-split k None p = refl
some-split k (Some y) None = refl
some-split k (Some y) (Some n) = refl

module _ (atoms : List Atom) (facts : List Literal) (l r : Tree) where
  abbrev splits : ℕ → ℕ → Bool
  splits zero k = false
  splits (suc d) k = is_some (derived atoms d (with_fact atoms facts (literal k true)) l r) && is_some (derived atoms d (with_fact atoms facts (literal k false)) l r)

  some-derived : (depth : ℕ) (v : Verdict) → v ≡ verdict_of (judged atoms facts l r) → is_some (derived atoms depth (Some facts) l r) ≡ by_verdict v (splits depth)
  some-derived zero v e = some-concluded (judged atoms facts l r) (λ k. None) ∙ ap (λ v. by_verdict v (λ k. false)) (sym e)
  some-derived (suc d) v e =
      some-concluded (judged atoms facts l r) split ∙ ap (λ v. by_verdict v (λ k. is_some (split k))) (sym e) ∙ go v
    where
      split : ℕ → Option Proof
      split k = split_at k (derived atoms d (with_fact atoms facts (literal k true)) l r) (derived atoms d (with_fact atoms facts (literal k false)) l r)

      go : (v : Verdict) → by_verdict v (λ k. is_some (split k)) ≡ by_verdict v (splits (suc d))
      go Alike = refl
      go Unlike = refl
      go (Open k) = some-split k (derived atoms d (with_fact atoms facts (literal k true)) l r) (derived atoms d (with_fact atoms facts (literal k false)) l r)

  pub derived-alike : (depth : ℕ) → Alike ≡ verdict_of (judged atoms facts l r) → true ≡ is_some (derived atoms depth (Some facts) l r)
  derived-alike depth e = sym (some-derived depth Alike e)

  pub derived-unlike : (depth : ℕ) → Unlike ≡ verdict_of (judged atoms facts l r) → false ≡ is_some (derived atoms depth (Some facts) l r)
  derived-unlike depth e = sym (some-derived depth Unlike e)

  pub derived-too_deep : (depth k : ℕ) → depth ≡ 0 → Open k ≡ verdict_of (judged atoms facts l r) → false ≡ is_some (derived atoms depth (Some facts) l r)
  derived-too_deep depth k z e = sym (some-derived depth (Open k) e ∙ ap (λ d. splits d k) z)

  -- at a depth above 0: the first branch fails, or all turns on the second
  pub derived-fails : (depth k : ℕ) → 1 ≤ depth → Open k ≡ verdict_of (judged atoms facts l r) → false ≡ is_some (derived atoms (depth - 1) (with_fact atoms facts (literal k true)) l r) → false ≡ is_some (derived atoms depth (Some facts) l r)
  derived-fails zero k h e a = absurd (omega arith)
  derived-fails (suc d) k h e a =
      let n : suc d - 1 ≡ d = omega arith in
      let b : false ≡ is_some (derived atoms d (with_fact atoms facts (literal k true)) l r) = subst (λ n. false ≡ is_some (derived atoms n (with_fact atoms facts (literal k true)) l r)) n a in
      sym (some-derived (suc d) (Open k) e ∙ ap (λ x. x && is_some (derived atoms d (with_fact atoms facts (literal k false)) l r)) (sym b))

  pub derived-splits : (depth k : ℕ) (x : Bool) → 1 ≤ depth → Open k ≡ verdict_of (judged atoms facts l r) → true ≡ is_some (derived atoms (depth - 1) (with_fact atoms facts (literal k true)) l r)
      → x ≡ is_some (derived atoms (depth - 1) (with_fact atoms facts (literal k false)) l r) → x ≡ is_some (derived atoms depth (Some facts) l r)
  derived-splits zero k x h e a i = absurd (omega arith)
  derived-splits (suc d) k x h e a i =
      let n : suc d - 1 ≡ d = omega arith in
      let b : true ≡ is_some (derived atoms d (with_fact atoms facts (literal k true)) l r) = subst (λ n. true ≡ is_some (derived atoms n (with_fact atoms facts (literal k true)) l r)) n a in
      let c : x ≡ is_some (derived atoms d (with_fact atoms facts (literal k false)) l r) = subst (λ n. x ≡ is_some (derived atoms n (with_fact atoms facts (literal k false)) l r)) n i in
      sym (some-derived (suc d) (Open k) e ∙ ap₂ (λ x y. x && y) (sym b) (sym c))

pub some-derivation : (c : Claim) (o : Option (List Literal)) → o ≡ with_facts c.atoms [] c.facts → is_some (derived c.atoms 10 o c.left c.right) ≡ is_some (derivation_of c)
unfolding derivation_of
some-derivation c o e = ap (λ f. is_some (derived c.atoms 10 f c.left c.right)) e

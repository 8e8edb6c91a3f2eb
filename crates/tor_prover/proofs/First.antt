-- The first rule that matches: it is the rule of its number, and it is found one number after another.
use Rattle.std.proofs.Common.{◌≡◌, ℕ, zero, suc, ◌+◌, ◌-◌, ◌<◌, ◌≤◌, List, [], ◌∷◌, drop, length, slice_get, refl, sym, ap, ◌∙◌, arith}
use Rattle.std.specs.List.{AllByRecursion}
use Rattle.std.specs.declared.option.Option.{Option}
use Rattle.std.specs.declared.option.Option.TheVariants.{Some, None}
use Rattle.tor_terms.specs.declared.term.Atom.{Atom}
use Rattle.tor_terms.specs.Plain.{Tree}
use Rattle.tor_axioms.specs.declared.facts.Literal.{Literal}
use Rattle.tor_axioms.specs.Paths.{applied}
use Rattle.tor_axioms.specs.Rules.{Rule, rules, by_rule, nth_rule}
use Rattle.tor_axioms.specs.Weight.{weight, Lowers}
use Rattle.tor_axioms.proofs.Lower.{each_lowers}
use Rattle.tor_prover.specs.Normal.{first_from, first_rule}

module _ (atoms : List Atom) (facts : List Literal) where
  -- it gives what the rule of its number gives, which is lighter
  abbrev pub IsFirst : Tree → Option (ℕ × Tree) → Type 0
  IsFirst t None = Unit {0}
  IsFirst t (Some found) = (applied atoms facts found.0 [] t ≡ Some found.1) × (weight found.1 < weight t)

  from_is_first : (fs : List Rule) (k : ℕ) (t : Tree) → AllByRecursion (λ f. (t : Tree) → Lowers t (f t)) fs → ((i : ℕ) → slice_get fs i ≡ nth_rule (rules atoms facts) (k + i)) → IsFirst t (first_from k fs t)
  from_is_first [] k t l h = tt
  from_is_first (f ∷ fs) k t l h = go (f t) refl (l.0 t) (from_is_first fs (k + 1) t l.1 (λ i. let e : k + suc i ≡ k + 1 + i = omega arith in h (suc i) ∙ ap (nth_rule (rules atoms facts)) e))
    where
      go : (o : Option Tree) → f t ≡ o → Lowers t o → IsFirst t (first_from (k + 1) fs t) → IsFirst t (elim o [ Some u ↦ Some (k, u) | None ↦ first_from (k + 1) fs t ])
      go None e w rest = rest
      go (Some u) e w rest =
          let z : k + 0 ≡ k = omega arith in
          (ap (λ n. by_rule (nth_rule (rules atoms facts) n) t) (sym z) ∙ ap (λ o. by_rule o t) (sym (h 0)) ∙ e, w)

  pub is_first : (t : Tree) → IsFirst t (first_rule atoms facts t)
  is_first t = from_is_first (rules atoms facts) 1 t (each_lowers atoms facts) (λ i. let e : suc i ≡ 1 + i = omega arith in ap (nth_rule (rules atoms facts)) e)

abbrev or_first : ℕ → Option Tree → Option (ℕ × Tree) → Option (ℕ × Tree)
or_first k (Some u) rest = Some (k, u)
or_first k None rest = rest

first_at : (fs : List Rule) (k m : ℕ) (t : Tree) → m < length fs → first_from k (drop m fs) t ≡ or_first k (by_rule (slice_get fs m) t) (first_from (k + 1) (drop (suc m) fs) t)
first_at [] k m t h = absurd (omega arith)
first_at (f ∷ fs) k zero t h = go (f t)
  where
    go : (o : Option Tree) → elim o as (λ _. Option (ℕ × Tree)) [ Some u ↦ Some (k, u) | None ↦ first_from (k + 1) fs t ] ≡ or_first k o (first_from (k + 1) fs t)
    go None = refl
    go (Some u) = refl
first_at (f ∷ fs) k (suc m) t h = first_at fs k m t (omega arith)

first_step : (fs : List Rule) (n : ℕ) (t : Tree) → 1 ≤ n → n ≤ length fs → first_from n (drop (n - 1) fs) t ≡ or_first n (by_rule (nth_rule fs n) t) (first_from (n + 1) (drop (n + 1 - 1) fs) t)
first_step fs zero t h g = absurd (omega arith)
first_step fs (suc m) t h g =
    let a : suc m - 1 ≡ m = omega arith in
    let b : suc m + 1 - 1 ≡ suc m = omega arith in
    rw (a, b) (first_at fs (suc m) m t (omega arith))

-- the steps of a loop that looks for it
pub first_found : (fs : List Rule) (n : ℕ) (t u : Tree) (x : Option (ℕ × Tree)) → x ≡ first_from n (drop (n - 1) fs) t → 1 ≤ n → n ≤ length fs → Some u ≡ by_rule (nth_rule fs n) t → Some (n, u) ≡ x
first_found fs n t u x e h g r = sym (e ∙ first_step fs n t h g ∙ ap (λ o. or_first n o (first_from (n + 1) (drop (n + 1 - 1) fs) t)) (sym r))

pub first_missed : (fs : List Rule) (n : ℕ) (t : Tree) (x : Option (ℕ × Tree)) → x ≡ first_from n (drop (n - 1) fs) t → 1 ≤ n → n ≤ length fs → None ≡ by_rule (nth_rule fs n) t → x ≡ first_from (n + 1) (drop (n + 1 - 1) fs) t
first_missed fs n t x e h g r = e ∙ first_step fs n t h g ∙ ap (λ o. or_first n o (first_from (n + 1) (drop (n + 1 - 1) fs) t)) (sym r)

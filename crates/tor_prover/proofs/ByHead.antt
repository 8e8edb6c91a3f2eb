-- Only the rules of its head match a term.
use Rattle.std.proofs.Common.{◌≡◌, ℕ, ◌-◌, List, drop, refl, sym, ap, ◌∙◌}
use Rattle.std.specs.declared.option.Option.{Option}
use Rattle.std.specs.declared.option.Option.TheVariants.{None}
use Rattle.tor_terms.specs.declared.term.Atom.{Atom}
use Rattle.tor_terms.specs.Plain.{Tree, Nil, Walk, Top, One, Single, Cat, Join, Sel, Proj, Uniq, Insert, Hold, Lit, Item, Count, Sum, Any, Best, Pick, Add, Or}
use Rattle.tor_axioms.specs.declared.facts.Literal.{Literal}
use Rattle.tor_axioms.specs.Rules.{rules}
use Rattle.tor_prover.specs.Heads.{head_rules}
use Rattle.tor_prover.specs.Normal.{first_from, first_rule}

module _ (atoms : List Atom) (facts : List Literal) where
  -- those before don't
  pub from_head : (t : Tree) → first_rule atoms facts t ≡ first_from (head_rules t).0 (drop ((head_rules t).0 - 1) (rules atoms facts)) t
  from_head Nil = refl
  from_head (Walk j) = refl
  from_head (Top index r) = refl
  from_head (One loops) = refl
  from_head (Single e) = refl
  from_head (Cat r s) = refl
  from_head (Join r s) = refl
  from_head (Sel fs r) = refl
  from_head (Proj e r) = refl
  from_head (Uniq r) = refl
  from_head (Insert r e) = refl
  from_head (Hold n) = refl
  from_head (Lit x) = refl
  from_head (Item e) = refl
  from_head (Count r) = refl
  from_head (Sum r) = refl
  from_head (Any r) = refl
  from_head (Best way v r) = refl
  from_head (Pick way v n) = refl
  from_head (Add a b) = refl
  from_head (Or a b) = refl

  -- nor those behind
  past_head : (t : Tree) → first_from (head_rules t).1 (drop ((head_rules t).1 - 1) (rules atoms facts)) t ≡ None
  past_head Nil = refl
  past_head (Walk j) = refl
  past_head (Top index r) = refl
  past_head (One loops) = refl
  past_head (Single e) = refl
  past_head (Cat r s) = refl
  past_head (Join r s) = refl
  past_head (Sel fs r) = refl
  past_head (Proj e r) = refl
  past_head (Uniq r) = refl
  past_head (Insert r e) = refl
  past_head (Hold n) = refl
  past_head (Lit x) = refl
  past_head (Item e) = refl
  past_head (Count r) = refl
  past_head (Sum r) = refl
  past_head (Any r) = refl
  past_head (Best way v r) = refl
  past_head (Pick way v n) = refl
  past_head (Add a b) = refl
  past_head (Or a b) = refl

  pub none_of_head : (t : Tree) (n : ℕ) → n ≡ (head_rules t).1 → (x : Option (ℕ × Tree)) → x ≡ first_from n (drop (n - 1) (rules atoms facts)) t → None ≡ x
  none_of_head t n e x h = sym (h ∙ ap (λ n. first_from n (drop (n - 1) (rules atoms facts)) t) e ∙ past_head t)

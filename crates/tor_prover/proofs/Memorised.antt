-- What is remembered of normal forms, and what a bank holds of them.
use Rattle.std.proofs.Common.{if◌then◌else◌, ◌≡◌, ◌⊎◌, inl, inr, ℕ, Bool, true, false, List, [], ◌∷◌, ◌++◌, Result, Ok, Err, IfOk, nat_eq, refl, sym, ap, ◌∙◌, subst}
use Rattle.std.proofs.lemmas.Bool.{eqb-true}
use Rattle.std.specs.List.{slice_get}
use Rattle.std.specs.Option.{option_map}
use Rattle.std.specs.declared.option.Option.{Option}
use Rattle.std.specs.declared.option.Option.TheVariants.{Some, None}
use Rattle.tor_terms.specs.declared.term.Atom.{Atom}
use Rattle.tor_terms.specs.Plain.{Tree}
use Rattle.term_bank.specs.Banks.{Holds, IsFrontOf}
use Rattle.term_bank.proofs.Fronts.{held_on}
use Rattle.tor_axioms.specs.declared.derivation.Derivation.{Derivation}
use Rattle.tor_axioms.specs.declared.derivation.Step.{Step}
use Rattle.tor_axioms.specs.declared.facts.Literal.{Literal}
use Rattle.tor_axioms.specs.Accepts.{Proof, Steps, Split, Absurd, Claim, proof_of}
use Rattle.tor_axioms.specs.Decide.{with_facts}
use Rattle.tor_prover.specs.Derive.{Judgement, Same, split_at}
use Rattle.tor_prover.specs.Normal.{Outcome, Normal, normal_form}
use Rattle.tor_prover.specs.Memos.{known_at, IsMemoOf, normal_term, HoldsCommon, HoldsSides, IfSame, IfSteps}

some_is : {A : Type 0} (x y : A) → Some x ≡ Some y → x ≡ y
some_is x y e = ap (λ o. elim o [ Some z ↦ z | None ↦ x ]) e

pub where_true : {A : Type 0} (b : Bool) (x y : A) → Some x ≡ (if b then Some y else None) → b ≡ true
where_true true x y e = refl
where_true false x y e = absurd cc

-- ---- the memo

last_known : (n m : ℕ) (o p : Outcome) → (if nat_eq n m then Some o else None) ≡ Some p → (n ≡ m) × (o ≡ p)
last_known n m o p = go (nat_eq n m) refl
  where
    go : (b : Bool) → nat_eq n m ≡ b → (if b then Some o else None) ≡ Some p → (n ≡ m) × (o ≡ p)
    go true q e = (eqb-true n m q, some_is o p e)
    go false q e = absurd cc

first_known : (b : Bool) (own : Outcome) (later more : Option Outcome) (p : Outcome) (Q : Type 0) → (more ≡ Some p → (later ≡ Some p) ⊎ Q) → (if b then Some own else more) ≡ Some p → ((if b then Some own else later) ≡ Some p) ⊎ Q
first_known true own later more p Q f e = inl e
first_known false own later more p Q f e = f e

known_behind : (ks : List (ℕ × Outcome)) (n m : ℕ) (o p : Outcome) → known_at (ks ++ (n, o) ∷ []) m ≡ Some p → (known_at ks m ≡ Some p) ⊎ ((n ≡ m) × (o ≡ p))
known_behind [] n m o p e = inr (last_known n m o p e)
known_behind (k ∷ ks) n m o p e = first_known (nat_eq k.0 m) k.1 (known_at ks m) (known_at (ks ++ (n, o) ∷ []) m) p ((n ≡ m) × (o ≡ p)) (known_behind ks n m o p) e

module _ (atoms : List Atom) (facts : List Literal) (ts : List Tree) where
  pub nothing_known : IsMemoOf atoms facts ts []
  nothing_known n t o g e = absurd cc

  pub noted : (ks new : List (ℕ × Outcome)) (n : ℕ) (t : Tree) (o : Outcome) → IsMemoOf atoms facts ts ks → slice_get ts n ≡ Some t → o ≡ normal_form atoms facts t
      → new ≡ ks ++ (n, o) ∷ [] → IsMemoOf atoms facts ts new
  noted ks new n t o w at e is m u p g h = elim (known_behind ks n m o p (subst (λ l. known_at l m ≡ Some p) is h)) [
    | inl a ↦ w m u p g a
    | inr b ↦ sym b.1 ∙ e ∙ ap (normal_form atoms facts) (some_is t u (sym at ∙ ap (slice_get ts) b.0 ∙ g))
  ]

-- ---- what a bank holds

module _ (ts : List Tree) (atoms : List Atom) (facts : List Literal) (l r : Tree) where
  pub holds_same : (t u : Tree) (left right : List Step) → Normal t left ≡ normal_form atoms facts l → Normal u right ≡ normal_form atoms facts r → t ≡ u → Holds ts t → HoldsCommon ts atoms (Some facts) l r
  holds_same t u left right p q same h = record { common = t; left = ap normal_term (sym p); right = ap normal_term (sym q) ∙ ap Some (sym same); held = h }

  -- steps are the answer where both sides come to one term
  pub steps_hold : (left right : List Step) (j : Judgement) → Same left right ≡ j → IfSame j (HoldsCommon ts atoms (Some facts) l r) → HoldsCommon ts atoms (Some facts) l r
  steps_hold left right j e h = subst (λ x. IfSame x (HoldsCommon ts atoms (Some facts) l r)) (sym e) h

-- a split isn't steps
pub split_holds : {E : Type 0} (P : Type 0) (k : ℕ) (y n : Option Proof) (r : Result (Option Derivation) E) → IfOk r (λ o. option_map proof_of o ≡ split_at k y n) → IfOk r (λ o. IfSteps (option_map proof_of o) P)
split_holds P k y n (Err e) h = tt
split_holds P k y n (Ok o) h = subst (λ x. IfSteps x P) (sym h) (go y n)
  where
    go : (y n : Option Proof) → IfSteps (split_at k y n) P
    go None n = tt
    go (Some y) None = tt
    go (Some y) (Some n) = tt

-- what both sides come to, with the sides
pub sides_hold : {E : Type 0} (start ts : List Tree) (c : Claim) (facts : List Literal) (r : Result (Option Derivation) E) → Some facts ≡ with_facts c.atoms [] c.facts → IsFrontOf start ts → Holds start c.left → Holds start c.right
    → IfOk r (λ o. IfSteps (option_map proof_of o) (HoldsCommon ts c.atoms (Some facts) c.left c.right)) → IfOk r (λ o. IfSteps (option_map proof_of o) (HoldsSides ts c))
sides_hold start ts c facts (Err e) s f a b h = tt
sides_hold start ts c facts (Ok o) s f a b h = go (option_map proof_of o) h
  where
    all : HoldsCommon ts c.atoms (Some facts) c.left c.right → HoldsSides ts c
    all k = record { left = held_on start ts c.left f a; right = held_on start ts c.right f b; common = subst (λ x. HoldsCommon ts c.atoms x c.left c.right) s k }

    go : (o : Option Proof) → IfSteps o (HoldsCommon ts c.atoms (Some facts) c.left c.right) → IfSteps o (HoldsSides ts c)
    go None h = tt
    go (Some (Steps left right)) h = all h
    go (Some (Split k y n)) h = tt
    go (Some Absurd) h = tt

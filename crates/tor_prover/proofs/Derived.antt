-- What the code derives.
use Rattle.std.proofs.Common.{◌≡◌, ℕ, zero, suc, ◌-◌, ◌≤◌, true, false, List, [], Result, Ok, Err, IfOk, IfSome, refl, sym, ap, ap₂, ◌∙◌, subst, arith}
use Rattle.std.specs.Option.{option_map}
use Rattle.std.specs.declared.option.Option.{Option}
use Rattle.std.specs.declared.option.Option.TheVariants.{Some, None}
use Rattle.tor_terms.specs.declared.term.Atom.{Atom}
use Rattle.tor_terms.specs.Plain.{Tree}
use Rattle.tor_axioms.specs.declared.derivation.Derivation.{Derivation}
use Rattle.tor_axioms.specs.declared.facts.Literal.{Literal}
use Rattle.tor_axioms.specs.Accepts.{Proof, proof_of, Claim, accepts}
use Rattle.tor_axioms.specs.Decide.{literal, with_fact, with_facts}
use Rattle.tor_prover.specs.Derive.{Splits, judged, split_at, concluded, derived, derivation_of}
use Rattle.tor_prover.proofs.Accepted.{derivation-accepted}

pub answer-accepted : {E : Type 0} (c : Claim) (r : Result (Option Derivation) E) → IfOk r (λ o. option_map proof_of o ≡ derivation_of c) → IfOk r (λ o. IfSome o (λ d. accepts c (proof_of d) ≡ true))
answer-accepted c (Ok None) e = tt
answer-accepted c (Ok (Some d)) e = derivation-accepted c (proof_of d) (sym e)
answer-accepted c (Err x) e = tt

-- a split, at a depth above 0
pub split-derived : (atoms : List Atom) (depth : ℕ) (facts : List Literal) (l r : Tree) (k : ℕ) (o p : Option Proof) → 1 ≤ depth → Splits k ≡ judged atoms facts l r
    → o ≡ derived atoms (depth - 1) (with_fact atoms facts (literal k true)) l r → p ≡ derived atoms (depth - 1) (with_fact atoms facts (literal k false)) l r → split_at k o p ≡ derived atoms depth (Some facts) l r
split-derived atoms zero facts l r k o p h j a b = absurd (omega arith)
split-derived atoms (suc d) facts l r k o p h j a b =
    let n : suc d - 1 ≡ d = omega arith in
    let a' : o ≡ derived atoms d (with_fact atoms facts (literal k true)) l r = subst (λ n. o ≡ derived atoms n (with_fact atoms facts (literal k true)) l r) n a in
    let b' : p ≡ derived atoms d (with_fact atoms facts (literal k false)) l r = subst (λ n. p ≡ derived atoms n (with_fact atoms facts (literal k false)) l r) n b in
    let split : ℕ → Option Proof = λ k. split_at k (derived atoms d (with_fact atoms facts (literal k true)) l r) (derived atoms d (with_fact atoms facts (literal k false)) l r) in
    ap₂ (split_at k) a' b' ∙ ap (λ j. concluded j split) j

-- the first branch fails, so the split does
pub split-fails : (atoms : List Atom) (depth : ℕ) (facts : List Literal) (l r : Tree) (k : ℕ) → 1 ≤ depth → Splits k ≡ judged atoms facts l r
    → None ≡ derived atoms (depth - 1) (with_fact atoms facts (literal k true)) l r → None ≡ derived atoms depth (Some facts) l r
split-fails atoms depth facts l r k h j a = split-derived atoms depth facts l r k None _ h j a refl

pub derivation-is : (c : Claim) (o : Option (List Literal)) → o ≡ with_facts c.atoms [] c.facts → derived c.atoms 10 o c.left c.right ≡ derivation_of c
unfolding derivation_of
derivation-is c o e = ap (λ f. derived c.atoms 10 f c.left c.right) e

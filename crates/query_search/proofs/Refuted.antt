-- Refuted candidates aren't accepted.
use Rattle.std.proofs.Common.{◌≡◌, ℕ, List, [], ◌∷◌, refl, subst}
use Rattle.std.proofs.Math.Logic.{∥∥₁_elim}
use Rattle.std.specs.declared.option.Option.{Option}
use Rattle.std.specs.declared.option.Option.TheVariants.{Some, None}
use Rattle.tor_axioms.specs.Accepts.{Proof, Claim}
use Rattle.tor_prover.specs.Derive.{derivation_of}
use Rattle.tor_prover.proofs.Accepted.{derivation-accepted}
use Rattle.kernel_lang.specs.Plain.{Fragment}
use Rattle.kernel_lang.specs.Pools.{IsCandidateOf}
use Rattle.kernel_lang.specs.Refuted.{IsRefuted}
use Rattle.kernel_lang.specs.Validity.{broken}
use Rattle.vc_gen.specs.Conditions.{conditions}
use Rattle.vc_gen.specs.Soundness.{AllAccepted}
use Rattle.vc_gen.proofs.Accepted.{all-accepted-anywhere}
use Rattle.vc_gen.proofs.Ended.{fragment-ends-anywhere}
use Rattle.vc_gen.proofs.Refused.{refuted-not_derived}
use Rattle.query_search.specs.Verdicts.{with_derivation, all_derived, proofs_of, IsAcceptedFor}

abbrev pub IfAccepted : List Claim → Option (List Proof) → Type 0
IfAccepted cs None = Unit {0}
IfAccepted cs (Some ds) = AllAccepted cs ds

with-accepted : (c : Claim) (cs : List Claim) (o : Option Proof) → derivation_of c ≡ o → (p : Option (List Proof)) → IfAccepted cs p → IfAccepted (c ∷ cs) (with_derivation o p)
with-accepted c cs None e p h = tt
with-accepted c cs (Some d) e None h = tt
with-accepted c cs (Some d) e (Some ds) h = (derivation-accepted c d e, h)

pub all_derived-accepted : (cs : List Claim) → IfAccepted cs (all_derived cs)
unfolding all_derived
all_derived-accepted [] = tt
all_derived-accepted (c ∷ cs) = with-accepted c cs (derivation_of c) refl (all_derived cs) (all_derived-accepted cs)

not_some : (f : Fragment) (c : List ℕ) → broken f ≡ None → IsRefuted f c → (o : Option (List Proof)) → IfAccepted (conditions f c) o → o ≡ None
not_some f c none r None h = refl
not_some f c none r (Some ds) h = absurd (refuted-not_derived f c ds none r h)

refuted-none : (f : Fragment) (c : List ℕ) → broken f ≡ None → IsRefuted f c → proofs_of f c ≡ None
refuted-none f c none r = not_some f c none r (proofs_of f c) (all_derived-accepted (conditions f c))

some_none : (ds : List Proof) → Some ds ≡ None → ⊥
some_none ds e = absurd cc

-- also where all that is known is that some database refutes it
pub dropped-none : (f : Fragment) (c : List ℕ) → broken f ≡ None → ∥ IsRefuted f c ∥₁ → proofs_of f c ≡ None
dropped-none f c none r = go (proofs_of f c) refl
  where
    go : (o : Option (List Proof)) → proofs_of f c ≡ o → o ≡ None
    go None e = refl
    go (Some ds) e = absurd (∥∥₁_elim r (λ x y. absurd x) (λ x. some_none ds (subst (λ o. o ≡ None) e (refuted-none f c none x))))

-- ---- accepted candidates

pub proofs-accepted : (f : Fragment) (c : List ℕ) (ds : List Proof) → broken f ≡ None → IsCandidateOf f c → proofs_of f c ≡ Some ds → IsAcceptedFor f c ds
proofs-accepted f c ds none candidate e =
    let accepted : AllAccepted (conditions f c) ds = subst (IfAccepted (conditions f c)) e (all_derived-accepted (conditions f c)) in
    record { candidate = candidate; accepted = accepted; ends = fragment-ends-anywhere f c none (all-accepted-anywhere (conditions f c) ds accepted) }

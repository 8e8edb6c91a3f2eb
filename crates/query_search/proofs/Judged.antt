-- Derivations of conditions, one after another.
use Rattle.std.proofs.Common.{◌≡◌, ℕ, ◌+◌, ◌<◌, ◌≤◌, List, [], ◌∷◌, ◌++◌, drop, length, get_or, refl, sym, ap, ◌∙◌, append_assoc, append-nil}
use Rattle.std.proofs.lemmas.List.{map-append, at_drop_more, at_drop_all}
use Rattle.std.specs.declared.option.Option.{Option}
use Rattle.std.specs.declared.option.Option.TheVariants.{Some, None}
use Rattle.tor_terms.specs.declared.term.Atom.{Atom}
use Rattle.tor_axioms.specs.declared.derivation.Derivation.{Derivation}
use Rattle.tor_axioms.specs.declared.derivation.Condition.{Condition}
use Rattle.tor_axioms.specs.Accepts.{Proof, proof_of, Claim, claim_over}
use Rattle.tor_prover.specs.Derive.{derivation_of}
use Rattle.vc_gen.specs.Lent.{claims_over}
use Rattle.query_search.specs.Seen.{proofs_in}
use Rattle.query_search.specs.Verdicts.{with_derivation, all_derived}

-- what is known of the first ones, and then of the others
abbrev pub behind : List Proof → Option (List Proof) → Option (List Proof)
behind ds None = None
behind ds (Some es) = Some (ds ++ es)

pub behind-none : (o : Option (List Proof)) → behind [] o ≡ o
behind-none None = refl
behind-none (Some es) = refl

one_behind : (ds : List Proof) (d : Proof) (o : Option (List Proof)) → behind ds (with_derivation (Some d) o) ≡ behind (ds ++ d ∷ []) o
one_behind ds d None = refl
one_behind ds d (Some es) = ap Some (sym (append_assoc ds (d ∷ []) es))

pub derived-step : (ds : List Proof) (c : Claim) (cs : List Claim) (d : Proof) → derivation_of c ≡ Some d → behind ds (all_derived (c ∷ cs)) ≡ behind (ds ++ d ∷ []) (all_derived cs)
unfolding all_derived
derived-step ds c cs d e = ap (λ o. behind ds (with_derivation o (all_derived cs))) e ∙ one_behind ds d (all_derived cs)

pub derived-stop : (ds : List Proof) (c : Claim) (cs : List Claim) → derivation_of c ≡ None → behind ds (all_derived (c ∷ cs)) ≡ None
unfolding all_derived
derived-stop ds c cs e = ap (λ o. behind ds (with_derivation o (all_derived cs))) e

pub derived-end : (ds : List Proof) → behind ds (all_derived []) ≡ Some ds
unfolding all_derived
derived-end ds = ap Some (append-nil ds)

-- a walk over conditions of the code: W is what comes of all of them
module _ (atoms : List Atom) (cs : List Condition) (i : ℕ) (ds : List Derivation) (W : Option (List Proof)) (so_far : behind (proofs_in ds) (all_derived (claims_over atoms (drop i cs))) ≡ W) where
  here : (c : Condition) → i < length cs → c ≡ get_or cs i c → behind (proofs_in ds) (all_derived (claim_over atoms c ∷ claims_over atoms (drop (i + 1) cs))) ≡ W
  here c h is =
      ap (λ x. behind (proofs_in ds) (all_derived (claim_over atoms x ∷ claims_over atoms (drop (i + 1) cs)))) is
      ∙ sym (at_drop_more (λ es. behind (proofs_in ds) (all_derived (claims_over atoms es))) cs i c h)
      ∙ so_far

  pub turn : (c : Condition) (d : Derivation) (new : List Derivation) → i < length cs → c ≡ get_or cs i c → derivation_of (claim_over atoms c) ≡ Some (proof_of d) → new ≡ ds ++ d ∷ []
      → behind (proofs_in new) (all_derived (claims_over atoms (drop (i + 1) cs))) ≡ W
  turn c d new h is e en =
      ap (λ n. behind (proofs_in n) (all_derived (claims_over atoms (drop (i + 1) cs)))) en
      ∙ ap (λ ps. behind ps (all_derived (claims_over atoms (drop (i + 1) cs)))) (map-append proof_of ds (d ∷ []))
      ∙ sym (derived-step (proofs_in ds) (claim_over atoms c) (claims_over atoms (drop (i + 1) cs)) (proof_of d) e)
      ∙ here c h is

  pub stop : (c : Condition) → i < length cs → c ≡ get_or cs i c → derivation_of (claim_over atoms c) ≡ None → None ≡ W
  stop c h is e = sym (derived-stop (proofs_in ds) (claim_over atoms c) (claims_over atoms (drop (i + 1) cs)) e) ∙ here c h is

  pub finish : length cs ≤ i → Some (proofs_in ds) ≡ W
  finish h = sym (derived-end (proofs_in ds)) ∙ sym (at_drop_all (λ es. behind (proofs_in ds) (all_derived (claims_over atoms es))) cs i h) ∙ so_far

use Rattle.std.proofs.Common.{◌≡◌, IfOk, ap, subst, option_map}
use Rattle.tor_terms.specs.Plain.{tree_of}
use Rattle.tor_axioms.specs.Accepts.{claim_of, proof_of}
use Rattle.tor_prover.specs.Derive.{claim_made, derivation_of}
use Rattle.tor_prover.proofs.Derived.{answer-accepted}
use Rattle.tor_prover.proofs.sharing.derive_with.Goals as goal

pub returns-clause-accepted : goal.returns-clause-accepted
returns-clause-accepted c =
    let q = ap (λ facts. derivation_of (claim_made c.args.vc.now.atoms facts (tree_of c.args.vc.now.left) (tree_of c.args.vc.now.right))) c.as_slice.ensures in
    answer-accepted (claim_of c.args.vc.now) c.derive_parts.result (subst (λ x. IfOk c.derive_parts.result (λ o. option_map proof_of o ≡ x)) q c.derive_parts.ensures.exact)

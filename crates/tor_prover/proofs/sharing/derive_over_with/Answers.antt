use Rattle.std.proofs.Common.{◌≡◌, IfOk, ap, subst, option_map}
use Rattle.tor_terms.specs.Plain.{tree_of}
use Rattle.tor_axioms.specs.Accepts.{claim_over, proof_of}
use Rattle.tor_prover.specs.Derive.{claim_made, derivation_of}
use Rattle.tor_prover.proofs.Derived.{answer-accepted}
use Rattle.tor_prover.proofs.sharing.derive_over_with.Goals as goal

pub returns-clause-accepted : goal.returns-clause-accepted
returns-clause-accepted c =
    let q = ap (λ facts. derivation_of (claim_made c.args.atoms.now facts (tree_of c.args.condition.now.left) (tree_of c.args.condition.now.right))) c.as_slice.ensures in
    answer-accepted (claim_over c.args.atoms.now c.args.condition.now) c.derive_parts.result (subst (λ x. IfOk c.derive_parts.result (λ o. option_map proof_of o ≡ x)) q c.derive_parts.ensures.exact)

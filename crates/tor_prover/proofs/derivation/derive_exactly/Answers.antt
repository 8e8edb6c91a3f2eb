use Rattle.std.proofs.Common.{◌≡◌, Some, None, IfOk, sym, ◌∙◌, subst, option_map}
use Rattle.tor_terms.specs.Plain.{tree_of}
use Rattle.tor_axioms.specs.Accepts.{proof_of}
use Rattle.tor_prover.specs.Derive.{claim_made, derived}
use Rattle.tor_prover.proofs.Derived.{derivation-is}
use Rattle.tor_prover.proofs.derivation.derive_exactly.Goals as goal

pub returns-in-None : goal.returns-in-None
returns-in-None c =
    derivation-is (claim_made c.args.atoms.now c.args.facts.now (tree_of c.args.left.now) (tree_of c.args.right.now)) None (sym c.in-None.is ∙ c.in_ok-with_facts.ensures)

pub returns-in-Some : goal.returns-in-Some
returns-in-Some c =
    let q = derivation-is (claim_made c.args.atoms.now c.args.facts.now (tree_of c.args.left.now) (tree_of c.args.right.now)) (Some c.in-Some.facts) (sym c.in-Some.is ∙ c.in_ok-with_facts.ensures) in
    let ten = subst (λ n. IfOk c.derive_within.result (λ o. option_map proof_of o ≡ derived c.args.atoms.now n (Some c.in-Some.facts) (tree_of c.args.left.now) (tree_of c.args.right.now))) c.most_splits.ensures c.derive_within.ensures in
    subst (λ x. IfOk c.derive_within.result (λ o. option_map proof_of o ≡ x)) q ten

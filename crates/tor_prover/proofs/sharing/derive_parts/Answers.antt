use Rattle.std.proofs.Common.{◌≡◌, Some, None, IfOk, sym, ◌∙◌, subst, option_map}
use Rattle.tor_terms.specs.Plain.{tree_of}
use Rattle.term_bank.specs.Held.{terms_in}
use Rattle.term_bank.proofs.Fronts.{held_on}
use Rattle.tor_axioms.specs.Accepts.{proof_of}
use Rattle.tor_prover.specs.Derive.{claim_made, derived}
use Rattle.tor_prover.proofs.Derived.{derivation-is}
use Rattle.tor_prover.proofs.Memorised.{sides_hold}
use Rattle.tor_prover.proofs.sharing.derive_parts.Goals as goal

pub returns-in-None-clause-exact : goal.returns-in-None-clause-exact
returns-in-None-clause-exact c =
    derivation-is (claim_made c.args.atoms.now c.args.facts.now (tree_of c.args.left.now) (tree_of c.args.right.now)) None (sym c.in-None.is ∙ c.in_ok-with_facts.ensures)

pub returns-in-Some-clause-exact : goal.returns-in-Some-clause-exact
returns-in-Some-clause-exact c =
    let q = derivation-is (claim_made c.args.atoms.now c.args.facts.now (tree_of c.args.left.now) (tree_of c.args.right.now)) (Some c.in-Some.facts) (sym c.in-Some.is ∙ c.in_ok-with_facts.ensures) in
    let ten = subst (λ n. IfOk c.derive_shared.result (λ o. option_map proof_of o ≡ derived c.args.atoms.now n (Some c.in-Some.facts) (tree_of c.args.left.now) (tree_of c.args.right.now))) c.most_splits.ensures c.derive_shared.ensures.exact in
    subst (λ x. IfOk c.derive_shared.result (λ o. option_map proof_of o ≡ x)) q ten

pub returns-in-Some-clause-holds : goal.returns-in-Some-clause-holds
returns-in-Some-clause-holds c =
    let left = held_on (terms_in c.put.new.self) (terms_in c.put-2.new.self) (tree_of c.args.left.now) c.put-2.ensures.grows (c.in_ok-put.field-0, c.in_ok-put.ensures.place) in
    sides_hold (terms_in c.put-2.new.self) (terms_in c.derive_shared.new.bank) (claim_made c.args.atoms.now c.args.facts.now (tree_of c.args.left.now) (tree_of c.args.right.now)) c.in-Some.facts
    c.derive_shared.result (sym c.in-Some.is ∙ c.in_ok-with_facts.ensures) c.derive_shared.ensures.grows left (c.in_ok-put-2.field-0, c.in_ok-put-2.ensures.place) c.derive_shared.ensures.holds

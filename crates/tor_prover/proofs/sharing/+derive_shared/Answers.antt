use Rattle.std.proofs.Common.{◌≡◌, IfOk, ap, sym, ◌∙◌, subst, arith, option_map}
use Rattle.tor_terms.specs.Plain.{tree_of}
use Rattle.tor_axioms.specs.Accepts.{proof_of}
use Rattle.tor_prover.specs.Seen.{judgement_of}
use Rattle.tor_prover.proofs.Derived.{split-derived}
use Rattle.tor_prover.proofs.sharing.+derive_shared.Goals as goal

pub derive_shared-returns-in_ok-no-in-Some-clause-exact : goal.derive_shared-returns-in_ok-no-in-Some-clause-exact
derive_shared-returns-in_ok-no-in-Some-clause-exact t c =
    let j = sym (ap judgement_of c.in-Splits.is) ∙ c.in_ok-left.ensures.exact in
    let a = sym (ap (option_map proof_of) c.in-Some.is) ∙ c.in_ok-derive_branch-in-Splits.ensures.exact in
    let q = split-derived c.args.atoms.now c.args.depth c.args.facts.now (tree_of c.args.left.now) (tree_of c.args.right.now) c.in-Splits.k _ _ (omega arith) j a c.in_ok-no-in-Some.ensures.exact in
    subst (λ x. IfOk c.split_at.result (λ o. option_map proof_of o ≡ x)) q c.split_at.ensures

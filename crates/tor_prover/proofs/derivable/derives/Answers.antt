use Rattle.std.proofs.Common.{◌≡◌, [], Some, None, IfOk, ap, sym, ◌∙◌, subst}
use Rattle.std.specs.Prelude.{is_some}
use Rattle.tor_terms.specs.Plain.{tree_of}
use Rattle.tor_axioms.specs.Accepts.{claim_over}
use Rattle.tor_axioms.specs.Decide.{with_facts}
use Rattle.tor_prover.specs.Derive.{derived}
use Rattle.tor_prover.proofs.Reducing.{some-derivation}
use Rattle.tor_prover.proofs.derivable.derives.Goals as goal

pub returns-in-None : goal.returns-in-None
returns-in-None c =
    record {
      exact = some-derivation (claim_over c.args.atoms.now c.args.condition.now) None (sym c.in-None.is ∙ c.in_ok-with_facts.ensures ∙ ap (with_facts c.args.atoms.now []) c.as_slice.ensures);
    }

pub returns-in-Some : goal.returns-in-Some
returns-in-Some c =
    let q = some-derivation (claim_over c.args.atoms.now c.args.condition.now) (Some c.in-Some.facts) (sym c.in-Some.is ∙ c.in_ok-with_facts.ensures ∙ ap (with_facts c.args.atoms.now []) c.as_slice.ensures) in
    let ten = subst (λ n. IfOk c.derives_within.result (λ b. b ≡ is_some (derived c.args.atoms.now n (Some c.in-Some.facts) (tree_of c.args.condition.now.left) (tree_of c.args.condition.now.right)))) c.most_splits.ensures c.derives_within.ensures in
    record { exact = subst (λ x. IfOk c.derives_within.result (λ b. b ≡ x)) q ten }

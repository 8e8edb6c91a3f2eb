use Rattle.std.proofs.Common.{Some, ap, ap₂, sym, ◌∙◌}
use Rattle.tor_terms.specs.Plain.{tree_of}
use Rattle.tor_terms.specs.Same.{same_tree}
use Rattle.tor_terms.proofs.Identical.{same_tree-true}
use Rattle.term_bank.specs.Held.{terms_in}
use Rattle.tor_prover.specs.Normal.{normal_form}
use Rattle.tor_prover.specs.Seen.{outcome_of}
use Rattle.tor_prover.proofs.Memorised.{where_true, holds_same}
use Rattle.tor_prover.proofs.sharing.judge_shared.Goals as goal

pub returns-in-Some-clause-holds : goal.returns-in-Some-clause-holds
returns-in-Some-clause-holds c =
    let p = sym (ap outcome_of c.in-Normal.is) ∙ c.in_ok-k.ensures.exact ∙ ap (normal_form c.args.atoms.now c.args.facts.now) c.in_ok-first.ensures in
    let q = sym (ap outcome_of c.in-Normal-2.is) ∙ c.in_ok-k-in-Normal.ensures.exact ∙ ap (normal_form c.args.atoms.now c.args.facts.now) c.in_ok-second-in-Normal.ensures in
    let alike = where_true c.same_term.result _ _ (sym c.in-Some.is ∙ c.where_same.ensures) in
    let same =
    same_tree-true (tree_of c.in-Normal.t.value) (tree_of c.in-Normal-2.u.value)
    (sym (c.same_term.ensures ∙ ap₂ (λ x y. same_tree (tree_of x) (tree_of y)) c.deref.ensures c.deref-in-Normal-2.ensures) ∙ alike) in
    holds_same (terms_in c.put.new.self) c.args.atoms.now c.args.facts.now (tree_of c.args.left.now) (tree_of c.args.right.now) (tree_of c.in-Normal.t.value) (tree_of c.in-Normal-2.u.value)
    c.in-Normal.steps c.in-Normal-2.more p q same (c.in_ok-put-in-Some.field-0, c.in_ok-put-in-Some.ensures.place ∙ ap (λ x. Some (tree_of x)) c.deref-in-Some.ensures)

use Rattle.std.proofs.Common.{◌≡◌, IfOk, ap, sym, ◌∙◌, subst, arith}
use Rattle.tor_terms.specs.Plain.{tree_of}
use Rattle.tor_prover.specs.Normal.{normal_parts, normal_form}
use Rattle.tor_prover.specs.Reduced.{reduced, reduced_seen}
use Rattle.tor_prover.proofs.Made.{room, room-less}
use Rattle.tor_prover.proofs.Reducing.{stuck-normal, reduct-normal}
use Rattle.tor_prover.proofs.Settled.{parts-settled_reduced}
use Rattle.tor_prover.proofs.reduce.+reduce.Goals as goal

-- children are lighter
pub reduce-reduce_children-requires : goal.reduce-reduce_children-requires
reduce-reduce_children-requires t c =
    let e = ap room c.take_apart.ensures in
    (omega (arith, c.decreases, e, room-less (tree_of c.args.t.value)), tt)

pub reduce-reduce_head-requires : goal.reduce-reduce_head-requires
reduce-reduce_head-requires t c =
    let e = sym (ap reduced_seen c.in-Reduct.is) ∙ c.in_ok-k.ensures ∙ ap (λ p. reduced (normal_parts (normal_form c.args.atoms.now c.args.facts.now) p)) c.take_apart.ensures in
    parts-settled_reduced c.args.atoms.now c.args.facts.now (tree_of c.args.t.value) (tree_of c.in-Reduct.u.value) e

pub reduce-returns-in-Stuck : goal.reduce-returns-in-Stuck
reduce-returns-in-Stuck t c =
    let e = sym (ap reduced_seen c.in-Stuck.is) ∙ c.in_ok-k.ensures ∙ ap (λ p. reduced (normal_parts (normal_form c.args.atoms.now c.args.facts.now) p)) c.take_apart.ensures in
    stuck-normal c.args.atoms.now c.args.facts.now (tree_of c.args.t.value) c.in-Stuck.k e

pub reduce-returns-in-Reduct : goal.reduce-returns-in-Reduct
reduce-returns-in-Reduct t c =
    let e = sym (ap reduced_seen c.in-Reduct.is) ∙ c.in_ok-k.ensures ∙ ap (λ p. reduced (normal_parts (normal_form c.args.atoms.now c.args.facts.now) p)) c.take_apart.ensures in
    let q = reduct-normal c.args.atoms.now c.args.facts.now (tree_of c.args.t.value) (tree_of c.in-Reduct.u.value) e in
    subst (λ x. IfOk c.reduce_head.result (λ r. reduced_seen r ≡ x)) q c.reduce_head.ensures

use Rattle.std.proofs.Common.{◌≡◌, IfOk, ap, sym, ◌∙◌, subst, arith, option_map}
use Rattle.tor_terms.specs.Plain.{tree_of}
use Rattle.tor_prover.specs.Normal.{normal_parts, normal_form, first_rule, met}
use Rattle.tor_prover.specs.Reduced.{reduced, reduced_seen}
use Rattle.tor_prover.specs.Settled.{PartsAre, ChildrenAreSettled}
use Rattle.tor_prover.proofs.Made.{room, room-less, first_lighter, settled-head}
use Rattle.tor_prover.proofs.Reducing.{children_lighter, stuck-normal, reduct-normal, rewritten-reduced}
use Rattle.tor_prover.proofs.Settled.{parts-settled_reduced, head-normal}
use Rattle.tor_prover.proofs.Settling.{first-settles}
use Rattle.tor_prover.proofs.reduce.+reduce_head.Goals as goal

-- what a rule gives is lighter, and settled below its children
pub reduce_head-reduce_made-requires : goal.reduce_head-reduce_made-requires
reduce_head-reduce_made-requires t c =
    let e = sym (ap (option_map (λ p. (p.0, tree_of p.1.value))) c.in-Some-2.is) ∙ c.in_ok-first_rule.ensures ∙ ap (λ x. first_rule c.args.atoms.now c.args.facts.now (tree_of x)) c.deref-2.ensures in (
      omega (arith, c.decreases, first_lighter c.args.atoms.now c.args.facts.now (tree_of c.args.t.value) c.in-Some-2.field-0-0 (tree_of c.in-Some-2.u.value) e),
      first-settles c.args.atoms.now c.args.facts.now (tree_of c.args.t.value) c.requires c.in-Some-2.field-0-0 (tree_of c.in-Some-2.u.value) e,
    )

pub reduce_head-returns-in-None : goal.reduce_head-returns-in-None
reduce_head-returns-in-None t c =
    let d = c.in_default.ensures ∙ ap (λ x. met c.args.atoms.now c.args.facts.now (tree_of x)) c.deref.ensures in
    let e = sym (ap (option_map (λ p. (p.0, tree_of p.1.value))) c.in-None.is) ∙ c.in_ok-first_rule.ensures ∙ ap (λ x. first_rule c.args.atoms.now c.args.facts.now (tree_of x)) c.deref-2.ensures in
    ap reduced (settled-head c.args.atoms.now c.args.facts.now (tree_of c.args.t.value) d e)

pub reduce_head-returns-in-Some-2 : goal.reduce_head-returns-in-Some-2
reduce_head-returns-in-Some-2 t c =
    let d = c.in_default.ensures ∙ ap (λ x. met c.args.atoms.now c.args.facts.now (tree_of x)) c.deref.ensures in
    let e = sym (ap (option_map (λ p. (p.0, tree_of p.1.value))) c.in-Some-2.is) ∙ c.in_ok-first_rule.ensures ∙ ap (λ x. first_rule c.args.atoms.now c.args.facts.now (tree_of x)) c.deref-2.ensures in
    let q = rewritten-reduced c.args.atoms.now c.args.facts.now (tree_of c.args.t.value) c.in-Some-2.field-0-0 (tree_of c.in-Some-2.u.value) d e in
    subst (λ x. IfOk c.reduce_made.result (λ r. reduced_seen r ≡ x)) q c.reduce_made.ensures

pub reduce_made-reduce_heads-requires : goal.reduce_made-reduce_heads-requires
reduce_made-reduce_heads-requires t c =
    let e = ap room c.take_apart.ensures in
    (omega (arith, c.decreases, e, room-less (tree_of c.args.t.value)), subst (PartsAre (ChildrenAreSettled c.args.atoms.now c.args.facts.now)) (sym c.take_apart.ensures) c.requires)

pub reduce_made-reduce_head-requires : goal.reduce_made-reduce_head-requires
reduce_made-reduce_head-requires t c =
    let e = sym (ap reduced_seen c.in-Reduct.is) ∙ c.in_ok-k.ensures ∙ ap (λ p. reduced (normal_parts (normal_form c.args.atoms.now c.args.facts.now) p)) c.take_apart.ensures in (
      omega (arith, c.decreases, children_lighter c.args.atoms.now c.args.facts.now (tree_of c.args.t.value) (tree_of c.in-Reduct.u.value) e),
      parts-settled_reduced c.args.atoms.now c.args.facts.now (tree_of c.args.t.value) (tree_of c.in-Reduct.u.value) e,
    )

pub reduce_made-returns-in-Stuck : goal.reduce_made-returns-in-Stuck
reduce_made-returns-in-Stuck t c =
    let e = sym (ap reduced_seen c.in-Stuck.is) ∙ c.in_ok-k.ensures ∙ ap (λ p. reduced (normal_parts (normal_form c.args.atoms.now c.args.facts.now) p)) c.take_apart.ensures in
    stuck-normal c.args.atoms.now c.args.facts.now (tree_of c.args.t.value) c.in-Stuck.k e

pub reduce_made-returns-in-Reduct : goal.reduce_made-returns-in-Reduct
reduce_made-returns-in-Reduct t c =
    let e = sym (ap reduced_seen c.in-Reduct.is) ∙ c.in_ok-k.ensures ∙ ap (λ p. reduced (normal_parts (normal_form c.args.atoms.now c.args.facts.now) p)) c.take_apart.ensures in
    let q = reduct-normal c.args.atoms.now c.args.facts.now (tree_of c.args.t.value) (tree_of c.in-Reduct.u.value) e in
    subst (λ x. IfOk c.reduce_head.result (λ r. reduced_seen r ≡ x)) q c.reduce_head.ensures

pub reduce_child-reduce_head-requires : goal.reduce_child-reduce_head-requires
reduce_child-reduce_head-requires t c = (omega (arith, c.decreases), c.requires)

pub reduce_child-returns : goal.reduce_child-returns
reduce_child-returns t c =
    subst (λ x. IfOk c.reduce_head.result (λ r. reduced_seen r ≡ x)) (ap reduced (head-normal c.args.atoms.now c.args.facts.now (tree_of c.args.t.value) c.requires)) c.reduce_head.ensures

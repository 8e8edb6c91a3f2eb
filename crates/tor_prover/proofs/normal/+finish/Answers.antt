use Rattle.std.proofs.Common.{◌≡◌, IfOk, ap, sym, ◌∙◌, subst, arith, option_map}
use Rattle.tor_terms.specs.Plain.{tree_of}
use Rattle.tor_prover.specs.Normal.{Normal, normal_parts, normal_form, first_rule, met}
use Rattle.tor_prover.specs.Seen.{outcome_of}
use Rattle.tor_prover.specs.Settled.{PartsAre, ChildrenAreSettled}
use Rattle.tor_prover.proofs.Made.{room, room-less, first_lighter, children_lighter, meets-normal, finished-normal, settled-head, rewritten-head}
use Rattle.tor_prover.proofs.Settled.{parts-settled, head-normal}
use Rattle.tor_prover.proofs.Settling.{first-settles}
use Rattle.tor_prover.proofs.normal.+finish.Goals as goal

-- what a rule gives is lighter, and settled below its children
pub finish-normalise_made-requires : goal.finish-normalise_made-requires
finish-normalise_made-requires t c =
    let e = sym (ap (option_map (λ p. (p.0, tree_of p.1.value))) c.in-Some-2.is) ∙ c.in_ok-first_rule.ensures ∙ ap (λ x. first_rule c.args.atoms.now c.args.facts.now (tree_of x)) c.deref-2.ensures in (
      omega (arith, c.decreases, first_lighter c.args.atoms.now c.args.facts.now (tree_of c.args.t.value) c.in-Some-2.rule (tree_of c.in-Some-2.u.value) e),
      first-settles c.args.atoms.now c.args.facts.now (tree_of c.args.t.value) c.requires c.in-Some-2.rule (tree_of c.in-Some-2.u.value) e,
    )

pub finish-returns-in_ok-rest-in-Some-2 : goal.finish-returns-in_ok-rest-in-Some-2
finish-returns-in_ok-rest-in-Some-2 t c =
    let d = c.in_default.ensures ∙ ap (λ x. met c.args.atoms.now c.args.facts.now (tree_of x)) c.deref.ensures in
    let e = sym (ap (option_map (λ p. (p.0, tree_of p.1.value))) c.in-Some-2.is) ∙ c.in_ok-first_rule.ensures ∙ ap (λ x. first_rule c.args.atoms.now c.args.facts.now (tree_of x)) c.deref-2.ensures in
    let q = rewritten-head c.args.atoms.now c.args.facts.now (tree_of c.args.t.value) c.in-Some-2.rule (tree_of c.in-Some-2.u.value) (outcome_of c.in_ok-rest-in-Some-2.rest) d e c.in_ok-rest-in-Some-2.ensures in
    subst (λ x. IfOk c.after_rule.result (λ o. outcome_of o ≡ x)) q c.after_rule.ensures

pub finish-returns-in-None : goal.finish-returns-in-None
finish-returns-in-None t c =
    let d = c.in_default.ensures ∙ ap (λ x. met c.args.atoms.now c.args.facts.now (tree_of x)) c.deref.ensures in
    let e = sym (ap (option_map (λ p. (p.0, tree_of p.1.value))) c.in-None.is) ∙ c.in_ok-first_rule.ensures ∙ ap (λ x. first_rule c.args.atoms.now c.args.facts.now (tree_of x)) c.deref-2.ensures in
    ap (Normal (tree_of c.args.t.value)) c.new.ensures ∙ settled-head c.args.atoms.now c.args.facts.now (tree_of c.args.t.value) d e

pub normalise_made-finish_children-requires : goal.normalise_made-finish_children-requires
normalise_made-finish_children-requires t c =
    let e = ap room c.take_apart.ensures in
    (omega (arith, c.decreases, e, room-less (tree_of c.args.t.value)), subst (PartsAre (ChildrenAreSettled c.args.atoms.now c.args.facts.now)) (sym c.take_apart.ensures) c.requires)

pub normalise_made-finish-requires : goal.normalise_made-finish-requires
normalise_made-finish-requires t c =
    let e = sym (ap outcome_of c.in-Normal.is) ∙ c.in_ok-k.ensures ∙ ap (normal_parts (normal_form c.args.atoms.now c.args.facts.now)) c.take_apart.ensures in (
      omega (arith, c.decreases, children_lighter c.args.atoms.now c.args.facts.now (tree_of c.args.t.value) (tree_of c.in-Normal.u.value) c.in-Normal.steps e),
      parts-settled c.args.atoms.now c.args.facts.now (tree_of c.args.t.value) (tree_of c.in-Normal.u.value) c.in-Normal.steps e,
    )

pub normalise_made-returns-in-Meets : goal.normalise_made-returns-in-Meets
normalise_made-returns-in-Meets t c =
    let e = sym (ap outcome_of c.in-Meets.is) ∙ c.in_ok-k.ensures ∙ ap (normal_parts (normal_form c.args.atoms.now c.args.facts.now)) c.take_apart.ensures in
    meets-normal c.args.atoms.now c.args.facts.now (tree_of c.args.t.value) c.in-Meets.k e

pub normalise_made-returns-in_ok-rest-in-Normal : goal.normalise_made-returns-in_ok-rest-in-Normal
normalise_made-returns-in_ok-rest-in-Normal t c =
    let e = sym (ap outcome_of c.in-Normal.is) ∙ c.in_ok-k.ensures ∙ ap (normal_parts (normal_form c.args.atoms.now c.args.facts.now)) c.take_apart.ensures in
    let q = finished-normal c.args.atoms.now c.args.facts.now (tree_of c.args.t.value) (tree_of c.in-Normal.u.value) c.in-Normal.steps (outcome_of c.in_ok-rest-in-Normal.rest) e c.in_ok-rest-in-Normal.ensures in
    subst (λ x. IfOk c.after_steps.result (λ o. outcome_of o ≡ x)) q c.after_steps.ensures

pub finish_child-finish-requires : goal.finish_child-finish-requires
finish_child-finish-requires t c = (omega (arith, c.decreases), c.requires)

pub finish_child-returns : goal.finish_child-returns
finish_child-returns t c = subst (λ x. IfOk c.finish.result (λ o. outcome_of o ≡ x)) (head-normal c.args.atoms.now c.args.facts.now (tree_of c.args.t.value) c.requires) c.finish.ensures

use Rattle.std.proofs.Common.{◌≡◌, IfOk, ap, sym, ◌∙◌, subst, arith}
use Rattle.tor_terms.specs.Plain.{tree_of}
use Rattle.tor_prover.specs.Normal.{normal_parts, normal_form}
use Rattle.tor_prover.specs.Seen.{outcome_of}
use Rattle.tor_prover.proofs.Made.{room, room-less, meets-normal, finished-normal}
use Rattle.tor_prover.proofs.Settled.{parts-settled}
use Rattle.tor_prover.proofs.normal.+normalise.Goals as goal

-- children are lighter
pub normalise-normal_children-requires : goal.normalise-normal_children-requires
normalise-normal_children-requires t c =
    let e = ap room c.take_apart.ensures in
    (omega (arith, c.decreases, e, room-less (tree_of c.args.t.value)), tt)

pub normalise-finish-requires : goal.normalise-finish-requires
normalise-finish-requires t c =
    let e = sym (ap outcome_of c.in-Normal.is) ∙ c.in_ok-k.ensures ∙ ap (normal_parts (normal_form c.args.atoms.now c.args.facts.now)) c.take_apart.ensures in
    parts-settled c.args.atoms.now c.args.facts.now (tree_of c.args.t.value) (tree_of c.in-Normal.u.value) c.in-Normal.steps e

pub normalise-returns-in-Meets : goal.normalise-returns-in-Meets
normalise-returns-in-Meets t c =
    let e = sym (ap outcome_of c.in-Meets.is) ∙ c.in_ok-k.ensures ∙ ap (normal_parts (normal_form c.args.atoms.now c.args.facts.now)) c.take_apart.ensures in
    meets-normal c.args.atoms.now c.args.facts.now (tree_of c.args.t.value) c.in-Meets.k e

pub normalise-returns-in_ok-rest-in-Normal : goal.normalise-returns-in_ok-rest-in-Normal
normalise-returns-in_ok-rest-in-Normal t c =
    let e = sym (ap outcome_of c.in-Normal.is) ∙ c.in_ok-k.ensures ∙ ap (normal_parts (normal_form c.args.atoms.now c.args.facts.now)) c.take_apart.ensures in
    let q = finished-normal c.args.atoms.now c.args.facts.now (tree_of c.args.t.value) (tree_of c.in-Normal.u.value) c.in-Normal.steps (outcome_of c.in_ok-rest-in-Normal.rest) e c.in_ok-rest-in-Normal.ensures in
    subst (λ x. IfOk c.after_steps.result (λ o. outcome_of o ≡ x)) q c.after_steps.ensures

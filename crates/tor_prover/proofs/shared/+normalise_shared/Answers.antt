use Rattle.std.proofs.Common.{◌≡◌, Some, IfOk, ap, sym, ◌∙◌, subst, arith}
use Rattle.tor_terms.specs.Plain.{tree_of}
use Rattle.term_bank.specs.Held.{terms_in}
use Rattle.tor_prover.specs.Normal.{normal_parts, normal_form}
use Rattle.tor_prover.specs.Remembered.{remembered}
use Rattle.tor_prover.specs.Seen.{outcome_of}
use Rattle.tor_prover.proofs.Made.{room, room-less, meets-normal, finished-normal}
use Rattle.tor_prover.proofs.Memorised.{noted}
use Rattle.tor_prover.proofs.Settled.{parts-settled}
use Rattle.tor_prover.proofs.shared.+normalise_shared.Goals as goal

-- children are lighter
pub normalise_anew-shared_children-requires : goal.normalise_anew-shared_children-requires
normalise_anew-shared_children-requires t c =
    let e = ap room c.take_apart.ensures in
    (omega (arith, c.decreases, e, room-less (tree_of c.args.t.value)), c.requires)

pub normalise_anew-finish-requires : goal.normalise_anew-finish-requires
normalise_anew-finish-requires t c =
    let e = sym (ap outcome_of c.in-Normal.is) ∙ c.in_ok-k.ensures.exact ∙ ap (normal_parts (normal_form c.args.atoms.now c.args.facts.now)) c.take_apart.ensures in
    parts-settled c.args.atoms.now c.args.facts.now (tree_of c.args.t.value) (tree_of c.in-Normal.u.value) c.in-Normal.steps e

pub normalise_anew-returns-in-Meets-clause-exact : goal.normalise_anew-returns-in-Meets-clause-exact
normalise_anew-returns-in-Meets-clause-exact t c =
    let e = sym (ap outcome_of c.in-Meets.is) ∙ c.in_ok-k.ensures.exact ∙ ap (normal_parts (normal_form c.args.atoms.now c.args.facts.now)) c.take_apart.ensures in
    meets-normal c.args.atoms.now c.args.facts.now (tree_of c.args.t.value) c.in-Meets.k e

pub normalise_anew-returns-in_ok-rest-in-Normal-clause-exact : goal.normalise_anew-returns-in_ok-rest-in-Normal-clause-exact
normalise_anew-returns-in_ok-rest-in-Normal-clause-exact t c =
    let e = sym (ap outcome_of c.in-Normal.is) ∙ c.in_ok-k.ensures.exact ∙ ap (normal_parts (normal_form c.args.atoms.now c.args.facts.now)) c.take_apart.ensures in
    let q = finished-normal c.args.atoms.now c.args.facts.now (tree_of c.args.t.value) (tree_of c.in-Normal.u.value) c.in-Normal.steps (outcome_of c.in_ok-rest-in-Normal.rest) e c.in_ok-rest-in-Normal.ensures in
    subst (λ x. IfOk c.after_steps.result (λ o. outcome_of o ≡ x)) q c.after_steps.ensures

pub normalise_shared-returns-in_ok-note-in-Some-clause-kept : goal.normalise_shared-returns-in_ok-note-in-Some-clause-kept
normalise_shared-returns-in_ok-note-in-Some-clause-kept t c =
    noted c.args.atoms.now c.args.facts.now (terms_in c.args.bank.now) (remembered c.normalise_anew.new.memo) (remembered c.note.new.memo) c.in-Some.number (tree_of c.args.t.value)
    (outcome_of c.in_ok-outcome-in-Some-2.outcome) c.in_ok-outcome-in-Some-2.ensures.kept (c.in-Some.ensures ∙ ap (λ x. Some (tree_of x)) c.deref.ensures)
    c.in_ok-outcome-in-Some-2.ensures.exact c.in_ok-note-in-Some.ensures

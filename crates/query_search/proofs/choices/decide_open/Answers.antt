use Rattle.std.proofs.Common.{◌/◌, IfOk, ap, ◌∙◌, subst}
use Rattle.tor_terms.specs.Plain.{forms_of}
use Rattle.kernel_lang.specs.Plain.{accumulator}
use Rattle.kernel_lang.specs.Whole.{fragment_of}
use Rattle.query_search.specs.Choices.{chosen_by}
use Rattle.query_search.specs.Deciding.{IsDecisionOn}
use Rattle.query_search.proofs.Kept.{own-placed, got}
use Rattle.query_search.proofs.choices.decide_open.Goals as goal

pub decide-requires : goal.decide-requires
decide-requires c =
    c.requires.known.1 _ (accumulator c.args.a.now) c.in-Some.outline.now c.requires.at (got c.args.memory.now.outlines c.as_slice.result.now _ c.in-Some.outline.now c.in-Some.outline.now c.as_slice.ensures c.in-Some.ensures.lookup.3.0 c.in-Some.ensures.lookup.1)

pub returns-in_ok-choice-in-Some : goal.returns-in_ok-choice-in-Some
returns-in_ok-choice-in-Some c =
    subst (λ z. IfOk c.decide.result (IsDecisionOn z))
    (own-placed (fragment_of c.args.frag.now) c.args.place (accumulator c.args.a.now) (forms_of c.as_slice-in-Some-2.result.now) c.requires.at (ap forms_of c.as_slice-in-Some-2.ensures ∙ c.in_ok-choice-in-Some.ensures ∙ ap (λ fs. chosen_by (c.args.place / 8) (forms_of fs)) c.as_slice-in-Some.ensures)) c.decide.ensures

use Rattle.std.proofs.Common.{sym, ap, ◌∙◌, subst}
use Rattle.kernel_lang.specs.Pools.{members_from}
use Rattle.kernel_lang.specs.Whole.{fragment_of}
use Rattle.vc_gen.specs.Conditions.{all_conditions}
use Rattle.query_search.specs.Choices.{conditions_at, FailAsKnown}
use Rattle.query_search.proofs.Kept.{kept-none, taken}
use Rattle.query_search.proofs.choices.judge_by.Goals as goal

pub knows_failing-requires : goal.knows_failing-requires
knows_failing-requires c = subst (FailAsKnown (fragment_of c.args.frag.now)) (sym c.as_slice.ensures.value) c.requires.0

pub returns-then-are_places-clause-exact : goal.returns-then-are_places-clause-exact
returns-then-are_places-clause-exact c =
    taken (fragment_of c.args.frag.now) c.args.cand.now c.decide_from.new.memory.kept.places.items c.decide_from.new.memory.kept.proofs.items c.take.result c.in_ok-decide_from.ensures.kept.2
    (ap (conditions_at (fragment_of c.args.frag.now)) (sym c.as_slice-4.ensures.value) ∙ c.are_places.ensures c.if-are_places.true
    ∙ ap (λ k. all_conditions (fragment_of c.args.frag.now).atoms (members_from k 0 (fragment_of c.args.frag.now).accs)) c.as_slice-5.ensures) c.take.ensures.taken

pub returns-then-are_places-clause-kept : goal.returns-then-are_places-clause-kept
returns-then-are_places-clause-kept c =
    (c.in_ok-decide_from.ensures.kept.0, c.in_ok-decide_from.ensures.kept.1, kept-none (fragment_of c.args.frag.now) _ _ c.take.ensures.places c.take.ensures.proofs)

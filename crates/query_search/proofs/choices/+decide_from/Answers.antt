use Rattle.tor_terms.specs.Plain.{forms_of}
use Rattle.kernel_lang.specs.Plain.{accumulator}
use Rattle.kernel_lang.specs.Whole.{fragment_of}
use Rattle.query_search.specs.Choices.{digits}
use Rattle.query_search.proofs.Choosing.{acc_at, placed-at, fails-here, fails-later, later-ok}
use Rattle.query_search.proofs.choices.+decide_from.Goals as goal

pub decide_at-requires-clause-at : goal.decide_at-requires-clause-at
decide_at-requires-clause-at t c =
    placed-at c.args.frag.now.accs (digits c.args.cand.now c.args.first (forms_of c.in-Some.a.now.pool)) c.args.i c.in-Some-place_of.place c.in-Some.a.now c.in-Some-place_of.ensures.room c.in-Some-place_of.ensures.place
    (acc_at c.args.frag.now.accs c.as_slice.result.now c.args.i c.in-Some.a.now c.in-Some.a.now c.as_slice.ensures c.in-Some.ensures.lookup.3.0 c.in-Some.ensures.lookup.1)

pub returns-then-not-branch-clause-fails : goal.returns-then-not-branch-clause-fails
returns-then-not-branch-clause-fails t c = λ e.
    fails-here (fragment_of c.args.frag.now) c.args.cand.now c.args.first c.args.i c.in-Some-place_of.place (accumulator c.in-Some.a.now) c.in-Some-place_of.ensures.room c.in-Some-place_of.ensures.place
    (acc_at c.args.frag.now.accs c.as_slice.result.now c.args.i c.in-Some.a.now c.in-Some.a.now c.as_slice.ensures c.in-Some.ensures.lookup.3.0 c.in-Some.ensures.lookup.1)
    (c.in_ok-decide_at-in-Some-place_of.ensures.fails c.if-not-branch.true)

pub returns-in-Some-behind-clause-fails : goal.returns-in-Some-behind-clause-fails
returns-in-Some-behind-clause-fails t c =
    later-ok c.decide_from.result c.decide_from.ensures.fails
    (fails-later (fragment_of c.args.frag.now) c.args.cand.now c.args.first c.in-Some-behind.next c.args.i (accumulator c.in-Some.a.now)
    (acc_at c.args.frag.now.accs c.as_slice.result.now c.args.i c.in-Some.a.now c.in-Some.a.now c.as_slice.ensures c.in-Some.ensures.lookup.3.0 c.in-Some.ensures.lookup.1) c.in-Some-behind.ensures)

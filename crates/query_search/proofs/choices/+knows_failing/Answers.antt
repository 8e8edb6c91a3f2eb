use Rattle.kernel_lang.specs.Plain.{accumulator}
use Rattle.kernel_lang.specs.Whole.{fragment_of}
use Rattle.query_search.proofs.Choosing.{acc_at, fails-here, fails-later}
use Rattle.query_search.proofs.choices.+knows_failing.Goals as goal

pub returns-then-fails_at : goal.returns-then-fails_at
returns-then-fails_at t c = λ e.
    fails-here (fragment_of c.args.frag.now) c.args.cand.now c.args.first c.args.i c.in-Some-place_of.place (accumulator c.in-Some.a.now) c.in-Some-place_of.ensures.room c.in-Some-place_of.ensures.place
    (acc_at c.args.frag.now.accs c.as_slice.result.now c.args.i c.in-Some.a.now c.in-Some.a.now c.as_slice.ensures c.in-Some.ensures.lookup.3.0 c.in-Some.ensures.lookup.1)
    (c.requires c.in-Some-place_of.place (c.fails_at.ensures c.if-fails_at.true))

pub returns-in-Some-behind : goal.returns-in-Some-behind
returns-in-Some-behind t c = λ e.
    fails-later (fragment_of c.args.frag.now) c.args.cand.now c.args.first c.in-Some-behind.next c.args.i (accumulator c.in-Some.a.now)
    (acc_at c.args.frag.now.accs c.as_slice.result.now c.args.i c.in-Some.a.now c.in-Some.a.now c.as_slice.ensures c.in-Some.ensures.lookup.3.0 c.in-Some.ensures.lookup.1) c.in-Some-behind.ensures (c.knows_failing.ensures e)

use Rattle.std.proofs.Common.{sym, ◌∙◌}
use Rattle.kernel_lang.specs.Plain.{accumulator}
use Rattle.kernel_lang.specs.Whole.{fragment_of}
use Rattle.query_search.proofs.Choosing.{acc_at}
use Rattle.query_search.proofs.Kept.{places-end, places-more, accs-past, no-places}
use Rattle.query_search.proofs.choices.+are_places.Goals as goal

pub returns-in-None : goal.returns-in-None
returns-in-None t c = λ e.
    places-end (fragment_of c.args.frag.now) c.args.places.now c.args.cand.now c.args.first c.args.i (accs-past c.args.frag.now.accs c.as_slice.result.now c.args.i c.as_slice.ensures c.in-None.ensures.lookup.3) (no-places c.args.places.now c.is_empty.result c.is_empty.ensures e)

pub returns-else-own-place : goal.returns-else-own-place
returns-else-own-place t c = λ e.
    places-more (fragment_of c.args.frag.now) c.args.places.now c.in-Some-split_first.rest.now c.args.cand.now c.args.first c.in-Some-behind.next c.args.i c.in-Some-split_first.place.now (accumulator c.in-Some.a.now) c.in-Some-place_of.ensures.room
    (sym c.if-own-place.false ∙ c.in-Some-place_of.ensures.place)
    (acc_at c.args.frag.now.accs c.as_slice.result.now c.args.i c.in-Some.a.now c.in-Some.a.now c.as_slice.ensures c.in-Some.ensures.lookup.3.0 c.in-Some.ensures.lookup.1) c.in-Some-behind.ensures c.in-Some-split_first.ensures.cases.0 (c.are_places.ensures e)

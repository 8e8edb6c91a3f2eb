use Rattle.std.proofs.Common.{◌<◌, length, refl, sym, arith, false-eqb}
use Rattle.std.proofs.lemmas.Bool.{eqb-true}
use Rattle.view_items.proofs.Kept.{known_at_first, known_behind}
use Rattle.view_items.proofs.Read.{begins, read_on, read_all, left_on, rest_on, in_places, places_first, places_on}
use Rattle.view_items.proofs.reading.items.Goals as goal

pub loop-rest-init : goal.loop-rest-init
loop-rest-init c = record {
  so_far = begins c.args.source.now _ c.new-list.ensures;
  known = known_at_first _ _ _ c.nothing-known.ensures;
  left = omega arith;
  rest = refl;
  places = places_first c.args.source.now _ c.new-list.ensures;
}

pub loop-rest-preserved : goal.loop-rest-preserved
loop-rest-preserved c =
    let some : 0 < length c.loop-rest.rest.now = omega (arith, false-eqb _ 0 c.loop-rest-test.ensures) in
    let long : 0 < c.piece-kind.result.1 = c.piece-kind.ensures.len.0 some in
    record {
      so_far = read_on c.loop-rest.at _ _ c.loop-rest.rest.now c.split_at.result.0.now c.split_at.result.1.now _ _ _ c.loop-rest.invariant.so_far some long c.piece-kind.ensures.len.1 c.piece-kind.ensures.value
          c.split_at.ensures.front c.split_at.ensures.back c.in_ok-add.ensures;
      known = known_behind _ _ c.piece-kind.result.1 c.loop-rest.rest.now _ c.split_at.ensures.back c.piece-kind.ensures.known;
      left = left_on c.loop-rest.at c.piece-kind.result.1 _ c.loop-rest.rest.now c.split_at.result.1.now c.piece-kind.ensures.len.1 c.split_at.ensures.back c.loop-rest.invariant.left;
      rest = rest_on c.loop-rest.at c.piece-kind.result.1 c.args.source.now c.loop-rest.rest.now c.split_at.result.1.now c.split_at.ensures.back c.loop-rest.invariant.rest;
      places = places_on c.args.source.now _ c.loop-rest.at _ c.loop-rest.rest.now c.split_at.result.0.now _ _ c.loop-rest.invariant.places c.loop-rest.invariant.rest long c.piece-kind.ensures.len.1 c.loop-rest.invariant.left
          c.split_at.ensures.front c.in_ok-add.ensures;
    }

pub returns : goal.returns
returns c = record {
  value = read_all c.loop-rest.at c.loop-rest.rest.now _ _ c.loop-rest.invariant.so_far (eqb-true _ _ (sym c.loop-rest-test.ensures));
  places = in_places _ _ _ _ c.loop-rest.invariant.places;
}

use Rattle.std.proofs.Common.{refl}
use Rattle.text_places.specs.Places.{moved}
use Rattle.text_places.proofs.places.span_in.Goals as goal

pub place_from-place-requires-clause-place : goal.place_from-place-requires-clause-place
unfolding moved
place_from-place-requires-clause-place c = refl

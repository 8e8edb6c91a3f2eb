-- The places of a method in which no rule is broken.
use Rattle.java_mean.proofs.TypedPlaces.{places_typed}
use Rattle.java_mean.proofs.laws.well_typed_methods_have_typed_places.Goals as goal

pub returns : goal.returns
returns c = places_typed

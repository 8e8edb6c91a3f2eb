-- What lists are seen as, by their members.
use Rattle.std.proofs.lemmas.List.{length-map}
use Rattle.std.proofs.lemmas.Option.{slice_get-map}

pub ruleset mapped = (slice_get-map, length-map)

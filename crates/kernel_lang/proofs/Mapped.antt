-- What lists are seen as, by their members.
use Rattle.std.proofs.lemmas.List.{take-map, take_all, length-map}
use Rattle.std.proofs.lemmas.Option.{slice_get-map}

pub ruleset mapped = (slice_get-map, take-map, take_all, length-map)

-- Accumulators, one by one.
use Rattle.std.proofs.Common.{append_assoc}
use Rattle.std.proofs.lemmas.List.{map-append}

pub ruleset accumulating = (map-append, append_assoc)

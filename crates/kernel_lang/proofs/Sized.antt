-- Sizes of pools.
use Rattle.std.proofs.lemmas.List.{length-append, length-map}
use Rattle.kernel_lang.proofs.PoolSizes.{combined_small}

pub ruleset sized = (length-append, length-map, combined_small)

use Rattle.std.proofs.Common.{◌+◌, ◌*◌}
use Rattle.tor_prover.proofs.derivation.+derive_within.Given as goal

abbrev pub decreases-derive_within : goal.decreases-derive_within
decreases-derive_within l = 2 * l.depth

abbrev pub decreases-derive_with : goal.decreases-derive_with
decreases-derive_with l = 2 * l.depth + 1

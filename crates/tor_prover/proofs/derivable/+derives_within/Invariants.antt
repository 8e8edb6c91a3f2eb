use Rattle.std.proofs.Common.{◌+◌, ◌*◌}
use Rattle.tor_prover.proofs.derivable.+derives_within.Given as goal

abbrev pub decreases-derives_within : goal.decreases-derives_within
decreases-derives_within l = 2 * l.depth

abbrev pub decreases-derives_with : goal.decreases-derives_with
decreases-derives_with l = 2 * l.depth + 1

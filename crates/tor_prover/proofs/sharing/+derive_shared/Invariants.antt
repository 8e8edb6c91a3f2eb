use Rattle.std.proofs.Common.{◌+◌, ◌*◌}
use Rattle.tor_prover.proofs.sharing.+derive_shared.Given as goal

abbrev pub decreases-derive_shared : goal.decreases-derive_shared
decreases-derive_shared l = 2 * l.depth

abbrev pub decreases-derive_branch : goal.decreases-derive_branch
decreases-derive_branch l = 2 * l.depth + 1

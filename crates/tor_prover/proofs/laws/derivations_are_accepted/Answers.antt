use Rattle.tor_prover.proofs.Accepted.{derivation-accepted}
use Rattle.tor_prover.proofs.laws.derivations_are_accepted.Goals as goal

pub returns : goal.returns
returns c = derivation-accepted

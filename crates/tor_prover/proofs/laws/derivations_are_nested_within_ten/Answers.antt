use Rattle.tor_prover.proofs.Nested.{derivation-nested}
use Rattle.tor_prover.proofs.laws.derivations_are_nested_within_ten.Goals as goal

pub returns : goal.returns
returns c = derivation-nested

use Rattle.tor_prover.proofs.Unfold.{normal_form-made}
use Rattle.tor_prover.proofs.laws.normal_forms_are_made_of_parts.Goals as goal

pub returns : goal.returns
returns c = normal_form-made

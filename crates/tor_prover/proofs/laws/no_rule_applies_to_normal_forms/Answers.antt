use Rattle.tor_prover.proofs.Ended.{normal_form-ends}
use Rattle.tor_prover.proofs.laws.no_rule_applies_to_normal_forms.Goals as goal

pub returns : goal.returns
returns c = normal_form-ends

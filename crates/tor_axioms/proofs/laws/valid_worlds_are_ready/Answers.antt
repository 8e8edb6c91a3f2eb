use Rattle.tor_axioms.proofs.Ready.{valid-ready}
use Rattle.tor_axioms.proofs.laws.valid_worlds_are_ready.Goals as goal

pub returns : goal.returns
returns c = valid-ready

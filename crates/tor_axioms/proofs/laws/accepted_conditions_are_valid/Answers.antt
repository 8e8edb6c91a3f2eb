use Rattle.tor_axioms.proofs.Accepted.{accepts-sound, sound-anywhere, anywhere-valid}
use Rattle.tor_axioms.proofs.laws.accepted_conditions_are_valid.Goals as goal

pub returns-clause-sound : goal.returns-clause-sound
returns-clause-sound c = accepts-sound

pub returns-clause-anywhere : goal.returns-clause-anywhere
returns-clause-anywhere c = sound-anywhere

pub returns-clause-fitting : goal.returns-clause-fitting
returns-clause-fitting c = anywhere-valid

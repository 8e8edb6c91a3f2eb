use Rattle.vc_gen.proofs.Accepted.{all-sound-valid, all-accepted-valid, all-sound-anywhere, all-accepted-anywhere}
use Rattle.vc_gen.proofs.laws.derived_conditions_are_valid.Goals as goal

pub returns-clause-sound : goal.returns-clause-sound
returns-clause-sound c = all-sound-valid

pub returns-clause-accepted : goal.returns-clause-accepted
returns-clause-accepted c = all-accepted-valid

pub returns-clause-sound_anywhere : goal.returns-clause-sound_anywhere
returns-clause-sound_anywhere c = all-sound-anywhere

pub returns-clause-accepted_anywhere : goal.returns-clause-accepted_anywhere
returns-clause-accepted_anywhere c = all-accepted-anywhere

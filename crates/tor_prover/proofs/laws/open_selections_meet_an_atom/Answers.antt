use Rattle.tor_prover.proofs.Stuck.{met-unless_decided}
use Rattle.tor_prover.proofs.laws.open_selections_meet_an_atom.Goals as goal

pub returns : goal.returns
returns c = met-unless_decided

-- What statements at a place do elsewhere.
use Rattle.java_mean.proofs.Matters.{matters}
use Rattle.java_mean.proofs.laws.only_reached_states_matter.Goals as goal

pub returns : goal.returns
returns c = matters

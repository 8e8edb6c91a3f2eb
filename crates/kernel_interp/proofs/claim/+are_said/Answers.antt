use Rattle.kernel_interp.specs.Claiming.{chosen_world}
use Rattle.kernel_interp.specs.Reading.{plain_of}
use Rattle.kernel_interp.proofs.Visited.{none_said}
use Rattle.kernel_interp.proofs.claim.+are_said.Goals as goal

pub returns-in-None : goal.returns-in-None
returns-in-None t c = none_said (plain_of c.args.claims.setting).atoms (chosen_world c.args.claims) c.args.members.now c.args.ends.now c.is_empty.result c.in-None.ensures.cases c.is_empty.ensures

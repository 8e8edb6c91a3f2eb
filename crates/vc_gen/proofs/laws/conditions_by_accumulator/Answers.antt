use Rattle.vc_gen.proofs.ByAccumulator.{by_accumulator}
use Rattle.vc_gen.proofs.laws.conditions_by_accumulator.Goals as goal

pub returns : goal.returns
returns c = by_accumulator

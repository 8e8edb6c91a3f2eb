use Rattle.spreads.proofs.Stated.{arguments_stay}
use Rattle.spreads.proofs.laws.arguments_stay.Goals as goal

pub returns : goal.returns
returns c = arguments_stay

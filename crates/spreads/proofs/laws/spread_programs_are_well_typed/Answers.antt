use Rattle.spreads.proofs.Sound.{typed, numbers}
use Rattle.spreads.proofs.laws.spread_programs_are_well_typed.Goals as goal

pub returns : goal.returns
returns c = record { typed = typed; numbers = λ schema reader p path s z well fits there is. numbers schema reader p path s z fits there is }

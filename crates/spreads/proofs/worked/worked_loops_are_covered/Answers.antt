use Rattle.spreads.proofs.Computed.{typed, covered}
use Rattle.spreads.proofs.worked.worked_loops_are_covered.Goals as goal

pub returns : goal.returns
returns c = record { typed = typed; covered = covered }

use Rattle.narrowings.proofs.ComputedTexts.{before, after}
use Rattle.narrowings.proofs.worked.worked_programs_are_written.Goals as goal

pub returns : goal.returns
returns c = record { before = before; after = after }

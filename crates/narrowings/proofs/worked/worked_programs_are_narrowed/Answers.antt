use Rattle.narrowings.proofs.Computed.{words, typed, numbers, narrowed, kept, after}
use Rattle.narrowings.proofs.worked.worked_programs_are_narrowed.Goals as goal

pub returns : goal.returns
returns c = record { words = words; typed = typed; numbers = numbers; narrowed = narrowed; kept = kept; after = after }

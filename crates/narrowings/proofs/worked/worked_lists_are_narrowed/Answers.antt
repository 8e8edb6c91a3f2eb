use Rattle.narrowings.proofs.Computed.{listed_typed, listed_numbers, listed_narrowed, listed_kept, listed_after}
use Rattle.narrowings.proofs.worked.worked_lists_are_narrowed.Goals as goal

pub returns : goal.returns
returns c = record { typed = listed_typed; numbers = listed_numbers; narrowed = listed_narrowed; kept = listed_kept; after = listed_after }
